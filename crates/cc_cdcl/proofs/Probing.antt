-- What is true of a search in each of its phases: the probe keeps what is true of the trail, and where all its decisions are taken back the
-- rows may be searched in order.
use Rattle.std.proofs.Common.{◌≡◌, ◌∙◌, ℕ, ◌+◌, ◌<◌, ◌≤◌, suc, inl, inr, true, false, List, [], ◌∷◌, ◌++◌, length, map, drop, take, get_or, set, None, refl, sym, subst, ap, arith, length-append}
use Rattle.std.proofs.Math.ListN.{length-set}
use Rattle.std.proofs.lemmas.Bool.Decides.{leb_tells}
use Rattle.std.proofs.lemmas.List.{length-map}
use Rattle.cc_defs.specs.Clauses.{Literal, IsIn, IsLiteralOver}
use Rattle.cc_kernel.specs.Kernels.{KernelView}
use Rattle.cc_trail.specs.declared.entries.Step.{Step}
use Rattle.cc_trail.specs.EntryParts.{literal_of_step}
use Rattle.cc_trail.specs.Steps.{AreSteps, steps_to, values_to}
use Rattle.cc_trail.specs.Trails.{TrailView, Fits, IsPropagated, IsSettled, back_at, decided}
use Rattle.cc_cdcl.specs.declared.choice.Cursor.{Cursor}
use Rattle.cc_cdcl.specs.declared.probe.Phase.{Phase}
use Rattle.cc_cdcl.specs.Analysis.{OpenLevels, OpenLevelsAfter}
use Rattle.cc_cdcl.specs.Choices.{AreChosen, AreChosenAfter}
use Rattle.cc_cdcl.specs.Cursors.{IsCursor}
use Rattle.cc_cdcl.specs.Derivations.{IsBackOver}
use Rattle.cc_cdcl.specs.Searches.{IsInPhase, IsSearching, IsTrailOf, is_probing}
use Rattle.cc_cdcl.proofs.Descending.{opens_more}
use Rattle.cc_cdcl.proofs.Resolving.{behind_front, opens_decided, opens_front}
use Rattle.cc_cdcl.proofs.Standing.{searching_back}
use Rattle.cc_cdcl.proofs.Stepping.{back_front}
use Rattle.cc_cdcl.proofs.Walks.{step_at}

-- ---- the trail

pub trail_of : (sizes : List ℕ) (kernel : KernelView) (trail : TrailView) (cursors : List Cursor) → IsSearching sizes kernel trail cursors → IsTrailOf kernel trail
trail_of sizes kernel trail cursors is = record { fits = is.fits; all = is.all; settled = is.settled; opened = is.opened }

pub trail_propagated : (kernel : KernelView) (old new : TrailView) → IsTrailOf kernel old → IsPropagated old new → Fits new kernel → IsSettled new kernel → IsTrailOf kernel new
trail_propagated kernel old new is propagated fits settled = record {
  fits = fits;
  all = propagated.attached ∙ is.all;
  settled = settled;
  opened = subst OpenLevels (sym propagated.steps) (opens_more old.level_count old.steps propagated.more propagated.each is.opened);
}

pub trail_decided : (kernel : KernelView) (old new : TrailView) (literal : Literal) → IsTrailOf kernel old → AreSteps old.variables old.steps old.level_count →
    new ≡ decided old literal → Fits new kernel → IsSettled new kernel → IsTrailOf kernel new
trail_decided kernel old new literal is are new_is fits settled = record {
  fits = fits;
  all = ap (λ (t : TrailView). t.attached) new_is ∙ is.all;
  settled = settled;
  opened = subst (λ (t : TrailView). OpenLevels t.steps) (sym new_is) (opens_decided old.variables old literal are is.opened);
}

pub decided_longer : (old new : TrailView) (literal : Literal) → new ≡ decided old literal → length old.steps < length new.steps
decided_longer old new literal new_is =
    let one : Step = record { lit = literal; level = old.level_count + 1; reason = None } in
    let last : length new.steps ≡ length (old.steps ++ one ∷ []) = ap (λ (t : TrailView). length t.steps) new_is in
    let more = length-append old.steps (one ∷ []) in omega arith

pub round_longer : (old middle new : TrailView) (literal : Literal) → IsPropagated old middle → new ≡ decided middle literal → length old.steps < length new.steps
round_longer old middle new literal propagated new_is =
    let one : Step = record { lit = literal; level = middle.level_count + 1; reason = None } in
    let first : length middle.steps ≡ length (old.steps ++ propagated.more) = ap length propagated.steps in
    let long = length-append old.steps propagated.more in
    let last : length new.steps ≡ length (middle.steps ++ one ∷ []) = ap (λ (t : TrailView). length t.steps) new_is in
    let more = length-append middle.steps (one ∷ []) in omega arith

opened_to : (back : ℕ) (trail : TrailView) → AreSteps trail.variables trail.steps trail.level_count → OpenLevels trail.steps → OpenLevels (steps_to back trail.steps)
opened_to back trail are opened =
    let (gone, front) = back_front back 0 trail.steps are.rising in opens_front [] (steps_to back trail.steps) gone (subst OpenLevels front opened)

pub trail_back : (kernel : KernelView) (old new : TrailView) (back : ℕ) → IsTrailOf kernel old → AreSteps old.variables old.steps old.level_count → new ≡ back_at old back →
    Fits new kernel → IsSettled new kernel → IsTrailOf kernel new
trail_back kernel old new back is are new_is fits settled = record {
  fits = fits;
  all = ap (λ (t : TrailView). t.attached) new_is ∙ is.all;
  settled = settled;
  opened = subst (λ (t : TrailView). OpenLevels t.steps) (sym new_is) (opened_to back old are is.opened);
}

-- ---- without decisions

to_low : (level : ℕ) (steps : List Step) (step : Step) → IsIn (steps_to level steps) step → step.level ≤ level
to_low level [] step none = absurd none
to_low level (first ∷ steps) step here = elim (leb_tells first.level level) [
  | inl low ↦ by (low.1) (to_low level steps step) (rw (low.0) at here)
  | inr above ↦ to_low level steps step (rw (above.0) at here)
]
  where
    by : first.level ≤ level → (IsIn (steps_to level steps) step → step.level ≤ level) → IsIn (first ∷ steps_to level steps) step → step.level ≤ level
    by low rest (inl same) = subst (λ (s : Step). s.level ≤ level) same low
    by low rest (inr there) = rest there

chosen_low : (sizes : List ℕ) (before steps : List Step) → OpenLevelsAfter before steps → ((step : Step) → IsIn steps step → step.level ≤ 0) → AreChosenAfter sizes before steps
chosen_low sizes before [] opened low = tt
chosen_low sizes before (step ∷ steps) opened low = (
  (λ none. let above = opened.0 none in let at = low step (inl refl) in absurd (omega arith)),
  chosen_low sizes (before ++ step ∷ []) steps opened.1 (λ other here. low other (inr here)),
)

first_set : (cursors : List Cursor) (start other : Cursor) → 0 < length cursors → get_or (set cursors 0 start) 0 other ≡ start
first_set [] start other some = absurd (omega arith)
first_set (first ∷ cursors) start other some = refl

pub listing_begins : (sizes : List ℕ) (kernel : KernelView) (old new : TrailView) (cursors : List Cursor) (start : Cursor) → IsTrailOf kernel old →
    AreSteps old.variables old.steps old.level_count → new ≡ back_at old 0 → Fits new kernel → IsSettled new kernel → length cursors ≡ old.variables + 1 →
    start ≡ record { position = 0; first = 1; variable = 1 } → IsSearching sizes kernel new (set cursors 0 start)
listing_begins sizes kernel old new cursors start is are new_is fits settled room start_is = record {
  fits = fits;
  all = ap (λ (t : TrailView). t.attached) new_is ∙ is.all;
  settled = settled;
  opened = subst (λ (t : TrailView). OpenLevels t.steps) (sym new_is) (opened_to 0 old are is.opened);
  chosen = subst (λ (t : TrailView). AreChosen sizes t.steps) (sym new_is)
      (chosen_low sizes [] (steps_to 0 old.steps) (opened_to 0 old are is.opened) (to_low 0 old.steps));
  cursors = record {
    room = length-set cursors 0 start ∙ room ∙ ap (λ (t : TrailView). t.variables + 1) (sym new_is);
    each = λ level other low.
        let none : level ≡ 0 = let levels = ap (λ (t : TrailView). t.level_count) new_is in omega arith in
        subst (λ (n : ℕ). IsCursor sizes new.variables (values_to n new.steps) (get_or (set cursors 0 start) n other)) (sym none)
        (subst (λ (c : Cursor). IsCursor sizes new.variables (values_to 0 new.steps) c) (sym (first_set cursors start other (omega arith) ∙ start_is))
        (record { positions = refl; some = omega arith; most = omega arith; before = λ variable some low. absurd (omega arith) }));
  };
}

-- ---- phases

pub phase_of : (phase : Phase) (sizes : List ℕ) (kernel : KernelView) (trail : TrailView) (cursors : List Cursor) → IsSearching sizes kernel trail cursors →
    IsInPhase phase sizes kernel trail cursors
phase_of phase sizes kernel trail cursors is = record { of_kernel = trail_of sizes kernel trail cursors is; room = is.cursors.room; searching = λ e. is }

pub phase_back : (phase : Phase) (sizes : List ℕ) (before after : KernelView) (old new : TrailView) (cursors : List Cursor) → IsInPhase phase sizes before old cursors →
    AreSteps old.variables old.steps old.level_count → IsBackOver old new after → IsInPhase phase sizes after new cursors
phase_back phase sizes before after old new cursors is are back = record {
  of_kernel = record {
    fits = back.fits;
    all = back.all;
    settled = back.settled;
    opened = subst OpenLevels (sym back.steps) (opens_more back.back (steps_to back.back old.steps) back.more back.each (opened_to back.back old are is.of_kernel.opened));
  };
  room = is.room ∙ ap (λ (n : ℕ). n + 1) (sym back.variables);
  searching = λ e. searching_back sizes before after old new cursors (is.searching e) are back;
}

pub phase_restarts : (phase other : Phase) (sizes : List ℕ) (kernel : KernelView) (old new : TrailView) (cursors : List Cursor) → IsInPhase phase sizes kernel old cursors →
    AreSteps old.variables old.steps old.level_count → new ≡ back_at old 0 → (Fits old kernel → Fits new kernel) → (IsSettled old kernel → IsSettled new kernel) →
    is_probing other ≡ true → IsInPhase other sizes kernel new cursors
phase_restarts phase other sizes kernel old new cursors is are new_is fits settled on = record {
  of_kernel = trail_back kernel old new 0 is.of_kernel are new_is (fits is.of_kernel.fits) (settled is.of_kernel.settled);
  room = is.room ∙ ap (λ (t : TrailView). t.variables + 1) (sym new_is);
  searching = λ e. absurd (never (sym on ∙ e));
}
  where
    never : true ≡ false → ⊥
    never e = cc

-- ---- what stands in a trail

pub entries_long : (steps : List Step) (entries : List Literal) → entries ≡ map literal_of_step steps → length entries ≡ length steps
entries_long steps entries is = ap length is ∙ length-map steps literal_of_step

pub entry_over : (variables : ℕ) (steps : List Step) (level_count : ℕ) → AreSteps variables steps level_count → (entries : List Literal) (place : ℕ) (literal : Literal) →
    entries ≡ map literal_of_step steps → place < length steps → literal ≡ get_or entries place literal → IsLiteralOver variables literal
entry_over variables steps level_count are entries place literal entries_are low is =
    let (last, at) = step_at steps place low in
    let same : literal ≡ last.lit = is ∙ ap (λ (es : List Literal). get_or es place literal) entries_are ∙ at.literal literal in
    subst (IsLiteralOver variables) (sym same)
    (are.over last (subst (λ (ss : List Step). IsIn ss last) (sym at.split) (behind_front (take place steps) (drop (suc place) steps) last)))
