-- What steps make true and false: at the levels below those of later steps it stays.
use Rattle.std.proofs.Common.{◌≡◌, ◌∙◌, ℕ, ◌+◌, ◌<◌, ◌≤◌, zero, suc, inl, inr, leb, true, false, List, [], ◌∷◌, ◌++◌, length, take, min, Some, None, refl, sym, subst, ap, arith, append_assoc, append-nil}
use Rattle.std.specs.Prelude.{◌⊎◌, if◌then◌else◌}
use Rattle.std.proofs.lemmas.Bool.Decides.{eqb_tells, leb_tells}
use Rattle.cc_defs.specs.Clauses.{Literal, IsIn}
use Rattle.cc_defs.specs.Assignments.{Values, IsClosed}
use Rattle.cc_trail.specs.declared.entries.Step.{Step}
use Rattle.cc_trail.specs.Links.{watched_at}
use Rattle.cc_trail.specs.Pairs.{PairsView, AreFollowed}
use Rattle.cc_trail.specs.Steps.{values_of, values_to, steps_to, AreSteps}
use Rattle.cc_trail.specs.Watches.{IsTrueBy, IsMetForGood, Watches, HasReason, AreReasonedAfter, partner}
use Rattle.cc_trail.specs.Trails.{TrailView, FitsClauses, number_of, IsSettledOver, decided, back_at}
use Rattle.cc_trail.proofs.StepLists.{in_left, in_cases, in_take, levels_most}

-- ---- closed sets that give the same values

pub closed_same : (a b : Values) (clauses : List (List Literal)) → ((variable : ℕ) → b variable ≡ a variable) → IsClosed a clauses → IsClosed b clauses
closed_same a b clauses same closed = record {
  none_failed = λ clause here failed. closed.none_failed clause here (λ literal member. sym (same literal.variable) ∙ failed literal member);
  none_unit = λ clause here unit. closed.none_unit clause here (record {
    left = unit.left;
    member = unit.member;
    open_yet = sym (same unit.left.variable) ∙ unit.open_yet;
    others = λ literal member. elim (unit.others literal member) [
      | inl is ↦ inl is
      | inr is ↦ inr (sym (same literal.variable) ∙ is)
    ];
  });
}

-- ---- values up to a level

pub to_front : (level : ℕ) (steps gone : List Step) → ((step : Step) → IsIn gone step → level < step.level) → (variable : ℕ) →
    values_to level (steps ++ gone) variable ≡ values_to level steps variable
to_front level [] [] high variable = refl
to_front level [] (step ∷ gone) high variable = elim (eqb_tells step.lit.variable variable) [
  | inl same ↦ rw (same.0) (too_high (leb_tells step.level level))
  | inr other ↦ rw (other.0) (to_front level [] gone (λ s here. high s (inr here)) variable)
]
  where
    too_high : ((leb step.level level ≡ true) × (step.level ≤ level)) ⊎ ((leb step.level level ≡ false) × (level < step.level)) →
        (if leb step.level level then Some step.lit.positive else None) ≡ None
    too_high (inl is) = let below : step.level ≤ level = is.1 in let above : level < step.level = high step (inl refl) in absurd (omega arith)
    too_high (inr is) = rw (is.0) refl
to_front level (step ∷ steps) gone high variable = elim (eqb_tells step.lit.variable variable) [
  | inl same ↦ rw (same.0) refl
  | inr other ↦ rw (other.0) (to_front level steps gone high variable)
]

pub to_all : (level : ℕ) (steps : List Step) → ((step : Step) → IsIn steps step → step.level ≤ level) → (variable : ℕ) →
    values_to level steps variable ≡ values_of steps variable
to_all level [] low variable = refl
to_all level (step ∷ steps) low variable = elim (eqb_tells step.lit.variable variable) [
  | inl same ↦ rw (same.0) (low_enough (leb_tells step.level level))
  | inr other ↦ rw (other.0) (to_all level steps (λ s here. low s (inr here)) variable)
]
  where
    low_enough : ((leb step.level level ≡ true) × (step.level ≤ level)) ⊎ ((leb step.level level ≡ false) × (level < step.level)) →
        (if leb step.level level then Some step.lit.positive else None) ≡ Some step.lit.positive
    low_enough (inl is) = rw (is.0) refl
    low_enough (inr is) = let above : level < step.level = is.1 in let below : step.level ≤ level = low step (inl refl) in absurd (omega arith)

pub only_high : (level : ℕ) (last : Step) → level < last.level → (step : Step) → IsIn (last ∷ []) step → level < step.level
only_high level last high step (inl same) = subst (λ (s : Step). level < s.level) same high
only_high level last high step (inr none) = elim none [ ]

-- ---- settled

pub settled_decided : (variables : ℕ) (steps : List Step) (level_count : ℕ) (last : Step) (clauses : List (List Literal)) → AreSteps variables steps level_count →
    last.level ≡ level_count + 1 → IsClosed (values_of steps) clauses → IsSettledOver steps level_count clauses → IsSettledOver (steps ++ last ∷ []) (level_count + 1) clauses
settled_decided variables steps level_count last clauses are level_is closed settled level low = elim (leb_tells level_count level) [
  | inl top ↦
      let above : level_count ≤ level = top.1 in
      let is : level ≡ level_count = omega arith in
      let levels = are.levels in
      closed_same (values_of steps) (values_to level (steps ++ last ∷ [])) clauses
      (λ variable. to_front level steps (last ∷ []) (only_high level last (omega arith)) variable ∙
      to_all level steps (λ step here. let most = levels_most 0 steps are.rising step here in omega (arith, most)) variable) closed
  | inr below ↦
      let lower : level < level_count = below.1 in
      closed_same (values_to level steps) (values_to level (steps ++ last ∷ [])) clauses
      (to_front level steps (last ∷ []) (only_high level last (omega arith))) (settled level lower)
]

pub settled_back : (steps kept gone : List Step) (level_count level : ℕ) (clauses : List (List Literal)) → steps ≡ kept ++ gone →
    ((step : Step) → IsIn gone step → level < step.level) → level ≤ level_count → IsSettledOver steps level_count clauses → IsSettledOver kept level clauses
settled_back steps kept gone level_count level clauses is high low settled lower below =
    closed_same (values_to lower steps) (values_to lower kept) clauses
    (λ variable. sym (to_front lower kept gone (λ step here. let above : level < step.level = high step here in omega arith) variable) ∙
    ap (λ (all : List Step). values_to lower all variable) (sym is)) (settled lower (omega arith))

-- ---- the fit

pub reasoned_push : (clauses : List (List Literal)) (before steps : List Step) (last : Step) → AreReasonedAfter clauses before steps →
    ((number : ℕ) → last.reason ≡ Some number → HasReason clauses (before ++ steps) last.lit number) → AreReasonedAfter clauses before (steps ++ last ∷ [])
reasoned_push clauses before [] last reasoned next =
    ((λ number is. subst (λ (ss : List Step). HasReason clauses ss last.lit number) (append-nil before) (next number is)), tt)
reasoned_push clauses before (step ∷ steps) last reasoned next = (
  reasoned.0,
  reasoned_push clauses (before ++ step ∷ []) steps last reasoned.1
      (λ number is. subst (λ (ss : List Step). HasReason clauses ss last.lit number) (sym (append_assoc before (step ∷ []) steps)) (next number is)),
)

pub reasoned_front : (clauses : List (List Literal)) (before steps gone : List Step) → AreReasonedAfter clauses before (steps ++ gone) → AreReasonedAfter clauses before steps
reasoned_front clauses before [] gone reasoned = tt
reasoned_front clauses before (step ∷ steps) gone reasoned = (reasoned.0, reasoned_front clauses (before ++ step ∷ []) steps gone reasoned.1)

pub true_more : (steps more : List Step) (literal : Literal) (level : ℕ) → IsTrueBy steps literal level → IsTrueBy (steps ++ more) literal level
true_more steps more literal level (step, here, is, low) = (step, in_left steps more step here, is, low)

pub watches_more : (clauses : List (List Literal)) (steps more : List Step) (number : ℕ) (watched : List Literal) (node : ℕ) → Watches clauses steps number watched node →
    Watches clauses (steps ++ more) number watched node
watches_more clauses steps more number watched node watches = record {
  clause = watches.clause;
  numbered = watches.numbered;
  here = watches.here;
  there = watches.there;
  apart = elim watches.apart [
    | inl apart ↦ inl apart
    | inr is ↦ inr (true_more steps more (watched_at watched node) 0 is)
  ];
}

pub good_more : (clauses : List (List Literal)) (steps more : List Step) (number : ℕ) → IsMetForGood clauses steps number → IsMetForGood clauses (steps ++ more) number
good_more clauses steps more number (clause, numbered, literal, member, is) = (clause, numbered, literal, member, true_more steps more literal 0 is)

pub take_left : (n : ℕ) (steps more : List Step) → n ≤ length steps → take n (steps ++ more) ≡ take n steps
take_left zero steps more within = refl
take_left (suc n) [] more within = absurd (omega arith)
take_left (suc n) (step ∷ steps) more within = ap (λ (rest : List Step). step ∷ rest) (take_left n steps more (omega arith))

pub followed_more : (pairs : PairsView) (n : ℕ) (steps more : List Step) → n ≤ length steps → AreFollowed pairs (take n steps) steps →
    AreFollowed pairs (take n (steps ++ more)) (steps ++ more)
followed_more pairs n steps more within followed one other beside step here is =
    true_more steps more other.lit step.level (followed one other beside step (subst (λ (ss : List Step). IsIn ss step) (take_left n steps more within) here) is)

pub fits_decided : (trail : TrailView) (literal : Literal) (clauses : List (List Literal)) → trail.visited ≤ length trail.steps → FitsClauses trail clauses →
    FitsClauses (decided trail literal) clauses
fits_decided trail literal clauses visited fits =
    let last : Step = record { lit = literal; level = trail.level_count + 1; reason = None } in
    record {
      attached = fits.attached;
      reasons = reasoned_push clauses [] trail.steps (record { lit = literal; level = trail.level_count + 1; reason = None }) fits.reasons (λ number is. cc);
      shorts = fits.shorts;
      met_few = fits.met_few;
      met = λ number here. good_more clauses trail.steps ((record { lit = literal; level = trail.level_count + 1; reason = None }) ∷ []) number (fits.met number here);
      longs = λ node within.
          watches_more clauses trail.steps ((record { lit = literal; level = trail.level_count + 1; reason = None }) ∷ []) (number_of trail.longs node) trail.watched node
          (fits.longs node within);
      pairs = fits.pairs;
      each = fits.each;
      watches = λ node within step here is.
          true_more trail.steps ((record { lit = literal; level = trail.level_count + 1; reason = None }) ∷ []) (watched_at trail.watched (partner node)) step.level
          (fits.watches node within step
          (subst (λ (ss : List Step). IsIn ss step) (take_left trail.visited trail.steps ((record { lit = literal; level = trail.level_count + 1; reason = None }) ∷ []) visited) here) is);
      followed = followed_more trail.pairs trail.visited trail.steps ((record { lit = literal; level = trail.level_count + 1; reason = None }) ∷ []) visited fits.followed;
    }

take_fewer_in : (m n : ℕ) (steps more : List Step) (step : Step) → m ≤ n → IsIn (take m steps) step → IsIn (take n (steps ++ more)) step
take_fewer_in zero n steps more step few here = elim here [ ]
take_fewer_in (suc m) zero steps more step few here = absurd (omega arith)
take_fewer_in (suc m) (suc n) [] more step few here = elim here [ ]
take_fewer_in (suc m) (suc n) (first ∷ steps) more step few (inl same) = inl same
take_fewer_in (suc m) (suc n) (first ∷ steps) more step few (inr here) = inr (take_fewer_in m n steps more step (omega arith) here)

pub fits_back : (trail : TrailView) (level : ℕ) (gone : List Step) (clauses : List (List Literal)) → trail.steps ≡ steps_to level trail.steps ++ gone →
    ((step : Step) → IsIn gone step → level < step.level) → ((step : Step) → IsIn (steps_to level trail.steps) step → step.level ≤ level) → FitsClauses trail clauses →
    FitsClauses (back_at trail level) clauses
fits_back trail level gone clauses front high low fits = record {
  attached = fits.attached;
  reasons = reasoned_front clauses [] (steps_to level trail.steps) gone (subst (λ (ss : List Step). AreReasonedAfter clauses [] ss) front fits.reasons);
  shorts = fits.shorts;
  met_few = fits.met_few;
  met = λ number here.
      let (clause, numbered, met_by, member, is) = fits.met number here in
      (clause, numbered, met_by, member, still 0 (omega arith) met_by is);
  longs = λ node within.
      let watches = fits.longs node within in
      record {
        clause = watches.clause;
        numbered = watches.numbered;
        here = watches.here;
        there = watches.there;
        apart = elim watches.apart [
          | inl apart ↦ inl apart
          | inr is ↦ inr (still 0 (omega arith) (watched_at trail.watched node) is)
        ];
      };
  pairs = fits.pairs;
  each = fits.each;
  watches = λ node within step here is.
      still step.level (low step (kept_in step here)) (watched_at trail.watched (partner node)) (fits.watches node within step (before step here) is);
  followed = λ one other beside step here is.
      still step.level (low step (kept_in step here)) other.lit (fits.followed one other beside step (before step here) is);
}
  where
    kept_in : (step : Step) → IsIn (take (min trail.visited (length (steps_to level trail.steps))) (steps_to level trail.steps)) step → IsIn (steps_to level trail.steps) step
    kept_in step here = in_take (min trail.visited (length (steps_to level trail.steps))) (steps_to level trail.steps) step here

    before : (step : Step) → IsIn (take (min trail.visited (length (steps_to level trail.steps))) (steps_to level trail.steps)) step → IsIn (take trail.visited trail.steps) step
    before step here = subst (λ (ss : List Step). IsIn (take trail.visited ss) step) (sym front)
        (take_fewer_in (min trail.visited (length (steps_to level trail.steps))) trail.visited (steps_to level trail.steps) gone step (omega arith) here)

    still : (at : ℕ) → at ≤ level → (literal : Literal) → IsTrueBy trail.steps literal at → IsTrueBy (steps_to level trail.steps) literal at
    still at at_low literal (step, here, is, step_low) = elim (in_cases (steps_to level trail.steps) gone step (subst (λ (ss : List Step). IsIn ss step) front here)) [
      | inl kept ↦ (step, kept, is, step_low)
      | inr above ↦ let too_high : level < step.level = high step above in absurd (omega arith)
    ]
