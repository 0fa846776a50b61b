-- The events of a run on certain and possible atoms grow by those of each turn.
use Rattle.std.proofs.Common.{◌≡◌, ◌≢◌, ◌⊎◌, ◌∙◌, refl, sym, ap, subst, ℕ, zero, suc, ◌+◌, List, [], ◌∷◌, ◌++◌, flat_map, length, map, Option, Some, None, inl, inr, append_assoc, append-nil}
use Rattle.std.specs.Prelude.{IsNone}
use Rattle.std.specs.List.{AllByRecursion}
use Rattle.std.proofs.lemmas.Grind.{flat_map-append}
use Rattle.cc_defs.specs.declared.log.LogLine.{LogLine}
use Rattle.cc_defs.specs.Resolved.{Query}
use Rattle.cc_defs.specs.Runs.{optional, range_of}
use Rattle.cc_lists.specs.Sections.{section_lines}
use Rattle.cc_lists.proofs.Members.{all_append}
use Rattle.cc_sure.specs.declared.event.SureEvent.{SureEvent}
use Rattle.cc_sure.specs.declared.event.SureEvent.TheVariants as events
use Rattle.cc_sure.specs.declared.turn.SureTurn.{SureTurn}
use Rattle.cc_sure.specs.declared.turn.SureTurn.TheVariants as turns
use Rattle.cc_silent.specs.Sought.{Sought, Any, With}
use Rattle.cc_sure.specs.SureEvents.{Finishes, IsEnd, heading_event, log_lines, sought_of, sure_events, told_events, turn_events}
use Rattle.cc_sure.specs.SureRuns.{Settled, SureEnding, SureRun, Tried, settled_examples, sought_next, sure_horizon}
use Rattle.cc_sure.specs.Sures.{GoesOn, HasMore, IsOver, SureView, sought_atom}
use Rattle.cc_sure.specs.SureTold.{SureTold, NoneAt, ExampleIs, NeverSo, AnswersAre, Ends, none_told, settled_told, sure_told, tried_told}
use Rattle.cc_sure.proofs.Saying.{Says}

-- ---- what is told first: horizons without a history, whose events are the same at each horizon that the run is at

abbrev IsOther : SureTold → Type 0
IsOther (NoneAt horizon) = ⊥
IsOther (ExampleIs number row) = Unit {0}
IsOther (NeverSo position value section) = Unit {0}
IsOther (AnswersAre position answers) = Unit {0}
IsOther (Ends sought ending) = Unit {0}

abbrev BeginsOther : List SureTold → Type 0
BeginsOther [] = Unit {0}
BeginsOther (told ∷ others) = IsOther told

tails : {X : Type 0} (x y : X) (xs ys : List X) → x ∷ xs ≡ y ∷ ys → xs ≡ ys
tails x y xs ys same = cc

none_alike : {Y : Type 0} (f : ℕ → SureTold → List Y) → ((a b empty : ℕ) → f a (NoneAt empty) ≡ f b (NoneAt empty)) → (first second low count : ℕ) →
    flat_map (f first) (none_told low count) ≡ flat_map (f second) (none_told low count)
none_alike f alike first second low zero = refl
none_alike f alike first second low (suc count) = λ i. alike first second low i ++ none_alike f alike first second (low + 1) count i

none_all : (P : SureTold → Type 0) → ((empty : ℕ) → P (NoneAt empty)) → (low count : ℕ) → AllByRecursion P (none_told low count)
none_all P each low zero = tt
none_all P each low (suc count) = (each low, none_all P each (low + 1) count)

as_many : (low count more : ℕ) (one : SureTold) (others behind : List SureTold) → IsOther one → BeginsOther behind →
    none_told low count ++ one ∷ others ≡ none_told low more ++ behind → count ≡ more
as_many low zero zero one others behind other begins same = refl
as_many low zero (suc more) one others behind other begins same = absurd (subst BeginsOther same other)
as_many low (suc count) zero one others behind other begins same = absurd (subst BeginsOther (sym same) begins)
as_many low (suc count) (suc more) one others behind other begins same =
    ap suc (as_many (low + 1) count more one others behind other begins (tails _ _ _ _ same))

-- ---- what is told behind them

abbrev behind_none : SureRun → List SureTold
behind_none run =
    map (ExampleIs 1) (optional run.first) ++ (settled_told (length (optional run.first)) 0 run.done
    ++ (tried_told (length (settled_examples run)) (length run.done) 0 run.next ++ map (Ends (sought_next run run.first)) (optional run.ending)))

-- nothing was tried before there is a first example
abbrev pub IsBegun : SureRun → Type 0
IsBegun run = IsNone run.first → (run.done ≡ []) × (run.next ≡ [])

apart : {X : Type 0} (a b c d e : List X) → (((a ++ b) ++ c) ++ d) ++ e ≡ a ++ (b ++ (c ++ (d ++ e)))
apart a b c d e = append_assoc ((a ++ b) ++ c) d e ∙ (append_assoc (a ++ b) c (d ++ e) ∙ append_assoc a b (c ++ (d ++ e)))

begins_other : (run : SureRun) → IsBegun run → BeginsOther (behind_none run)
begins_other run begun = by run.empty run.first run.done run.next run.ending begun
  where
    ends : (ending : Option SureEnding) → BeginsOther (map (Ends Any) (optional ending))
    ends None = tt
    ends (Some ending) = tt

    by : (empty : ℕ) (first : Option (List ℕ)) (done : List Settled) (next : List Tried) (ending : Option SureEnding) →
        (IsNone first → (done ≡ []) × (next ≡ [])) → BeginsOther (behind_none (record { empty = empty; first = first; done = done; next = next; ending = ending }))
    by empty (Some row) done next ending begun = tt
    by empty None done next ending begun =
        let (bare, blank) = begun refl in
        subst (λ (s : List Settled). BeginsOther (behind_none (record { empty = empty; first = None; done = s; next = next; ending = ending }))) (sym bare)
        (subst (λ (t : List Tried). BeginsOther (behind_none (record { empty = empty; first = None; done = []; next = t; ending = ending }))) (sym blank) (ends ending))

module _ (q : Query) (run after : SureRun) (told : SureTold) (begun : IsBegun run) (begun_after : IsBegun after) (is : sure_told q after ≡ sure_told q run ++ told ∷ []) where
  abbrev low : ℕ
  low = (range_of q).0

  -- only horizons without a history were told before, or the run stays at its horizon
  stays : (sure_told q run ≡ none_told low run.empty) ⊎ (sure_horizon q after ≡ sure_horizon q run)
  stays = by (behind_none run) (begins_other run begun) refl
    where
      front : sure_told q run ≡ none_told low run.empty ++ behind_none run
      front = apart (none_told low run.empty) _ _ _ _

      back : sure_told q after ≡ none_told low after.empty ++ behind_none after
      back = apart (none_told low after.empty) _ _ _ _

      by : (others : List SureTold) → BeginsOther others → behind_none run ≡ others →
          (sure_told q run ≡ none_told low run.empty) ⊎ (sure_horizon q after ≡ sure_horizon q run)
      by [] begins same = inl (front ∙ (ap (λ (l : List SureTold). none_told low run.empty ++ l) same ∙ append-nil (none_told low run.empty)))
      by (one ∷ others) begins same =
          let before : sure_told q run ≡ none_told low run.empty ++ one ∷ others = front ∙ ap (λ (l : List SureTold). none_told low run.empty ++ l) same in
          inr (ap (λ (n : ℕ). low + n) (sym (as_many low run.empty after.empty one (others ++ told ∷ []) (behind_none after) begins (begins_other after begun_after)
          (sym (append_assoc (none_told low run.empty) (one ∷ others) (told ∷ [])) ∙ (ap (λ (l : List SureTold). l ++ told ∷ []) (sym before) ∙ (sym is ∙ back))))))

  -- what is told of a run grows by what is told of this, where it is told alike of horizons without a history
  pub grows_by : {Y : Type 0} (f : ℕ → SureTold → List Y) → ((a b empty : ℕ) → f a (NoneAt empty) ≡ f b (NoneAt empty)) →
      flat_map (f (sure_horizon q after)) (sure_told q after) ≡ flat_map (f (sure_horizon q run)) (sure_told q run) ++ f (sure_horizon q after) told
  grows_by f alike =
      let here = f (sure_horizon q after) in
      ap (flat_map here) is ∙ (flat_map-append here (sure_told q run) (told ∷ []) ∙ (λ i. kept stays i ++ append-nil (here told) i))
    where
      kept : (sure_told q run ≡ none_told low run.empty) ⊎ (sure_horizon q after ≡ sure_horizon q run) →
          flat_map (f (sure_horizon q after)) (sure_told q run) ≡ flat_map (f (sure_horizon q run)) (sure_told q run)
      kept (inl only) = ap (flat_map (f (sure_horizon q after))) only
          ∙ (none_alike f alike (sure_horizon q after) (sure_horizon q run) low run.empty ∙ ap (flat_map (f (sure_horizon q run))) (sym only))
      kept (inr same) = ap (λ (n : ℕ). flat_map (f n) (sure_told q run)) same

  pub sure_grows : sure_events q after ≡ sure_events q run ++ told_events (sure_horizon q after) told
  sure_grows = grows_by told_events (λ a b empty. refl)

  -- what is so of all that was told, and of this
  pub all_more : (P : ℕ → SureTold → Type 0) → ((horizon empty : ℕ) → P horizon (NoneAt empty)) → AllByRecursion (P (sure_horizon q run)) (sure_told q run) →
      P (sure_horizon q after) told → AllByRecursion (P (sure_horizon q after)) (sure_told q after)
  all_more P each all more = subst (AllByRecursion (P (sure_horizon q after))) (sym is)
      (all_append (P (sure_horizon q after)) (sure_told q run) (told ∷ []) (kept stays) (more, tt))
    where
      kept : (sure_told q run ≡ none_told low run.empty) ⊎ (sure_horizon q after ≡ sure_horizon q run) → AllByRecursion (P (sure_horizon q after)) (sure_told q run)
      kept (inl only) = subst (AllByRecursion (P (sure_horizon q after))) (sym only) (none_all (P (sure_horizon q after)) (each (sure_horizon q after)) low run.empty)
      kept (inr same) = subst (λ (n : ℕ). AllByRecursion (P n) (sure_told q run)) (sym same) all

-- ---- the events of a turn

sought_again : (sought : Sought) → sought_of (sought_atom sought) ≡ sought
sought_again Any = refl
sought_again (With position value) = refl

pub turn_says : (horizon : ℕ) (turn : SureTurn) (told : SureTold) → Says turn told → turn_events horizon turn ≡ told_events horizon told
turn_says horizon (turns.NoHistory empty) told is = ap (told_events horizon) (sym is)
turn_says horizon (turns.Example number row) told is = ap (told_events horizon) (sym is)
turn_says horizon (turns.Impossible position value given) told (section, lines, is) =
    ap (λ (l : List LogLine). turn_events horizon (turns.Impossible position value l)) lines ∙ ap (told_events horizon) (sym is)
turn_says horizon (turns.Answers position answers) told is = ap (told_events horizon) (sym is)
turn_says horizon turns.Complete told (sought, is) = ap (told_events horizon) (sym is)
turn_says horizon turns.NoneAtAll told (sought, is) = ap (told_events horizon) (sym is)
turn_says horizon (turns.Spent atom given) told (sought, section, atom_is, lines, is) =
    (λ i. turn_events horizon (turns.Spent (atom_is i) (lines i)))
    ∙ (ap (λ (s : Sought). heading_event horizon s ∷ (log_lines (section_lines section) ++ events.Spent horizon ∷ [])) (sought_again sought)
    ∙ ap (told_events horizon) (sym is))

-- ---- where the ending stands

finishes_lines : (given : List LogLine) (event : SureEvent) → IsEnd event → Finishes (log_lines given ++ event ∷ [])
finishes_lines [] event is = is
finishes_lines (line ∷ []) event is = is
finishes_lines (line ∷ next ∷ others) event is = finishes_lines (next ∷ others) event is

finishes_behind : (first : SureEvent) (given : List LogLine) (event : SureEvent) → IsEnd event → Finishes (first ∷ (log_lines given ++ event ∷ []))
finishes_behind first [] event is = is
finishes_behind first (line ∷ others) event is = finishes_lines (line ∷ others) event is

pub turn_finishes : (horizon : ℕ) (new : SureView) (turn : SureTurn) → GoesOn new turn → IsOver new → Finishes (turn_events horizon turn)
turn_finishes horizon new (turns.NoHistory empty) goes over = absurd (goes over)
turn_finishes horizon new (turns.Example number row) goes over = absurd (goes over)
turn_finishes horizon new (turns.Impossible position value given) goes over = absurd (goes over)
turn_finishes horizon new (turns.Answers position answers) goes over = absurd (goes over)
turn_finishes horizon new turns.Complete goes over = tt
turn_finishes horizon new turns.NoneAtAll goes over = tt
turn_finishes horizon new (turns.Spent atom given) goes over = finishes_behind (heading_event horizon (sought_of atom)) given (events.Spent horizon) tt

nothing_first : (event : SureEvent) (others : List SureEvent) → event ∷ others ≡ [] → ⊥
nothing_first event others same = absurd cc

-- more is to come behind a turn: other turns, or its own events where it ends the run
pub turn_more : (horizon : ℕ) (new : SureView) (turn : SureTurn) → GoesOn new turn → (turn_events horizon turn ≢ []) ⊎ HasMore new
turn_more horizon new (turns.NoHistory empty) goes = inr goes
turn_more horizon new (turns.Example number row) goes = inr goes
turn_more horizon new (turns.Impossible position value given) goes = inr goes
turn_more horizon new (turns.Answers position answers) goes = inr goes
turn_more horizon new turns.Complete goes = inl (nothing_first events.Complete [])
turn_more horizon new turns.NoneAtAll goes = inl (nothing_first events.NoneAtAll [])
turn_more horizon new (turns.Spent atom given) goes = inl (nothing_first (heading_event horizon (sought_of atom)) (log_lines given ++ events.Spent horizon ∷ []))
