-- What keeps the walk of conflict analysis going: the step that is resolved on has a reason, and one literal of the last level is left.
use Rattle.std.proofs.Common.{◌≡◌, ◌≢◌, ◌∙◌, ℕ, ◌+◌, ◌<◌, ◌≤◌, inl, inr, Bool, true, false, not, List, [], ◌∷◌, ◌++◌, Option, Some, None, refl, sym, subst, ap, arith, append_assoc, append-nil}
use Rattle.std.proofs.lemmas.Bool.Decides.{eqb_tells}
use Rattle.cc_defs.specs.Assignments.{IsFailed}
use Rattle.cc_defs.specs.Clauses.{Literal, IsIn, IsResolvent, opposite}
use Rattle.cc_trail.specs.declared.entries.Step.{Step}
use Rattle.cc_trail.specs.Steps.{AreSteps, IsRising, level_after, step_of, values_of}
use Rattle.cc_trail.specs.Trails.{TrailView, decided}
use Rattle.cc_trail.specs.Watches.{IsFalseBy}
use Rattle.cc_cdcl.specs.Analysis.{AreFalseBy, HasOneOf, HasTwoOf, OpenLevels, OpenLevelsAfter, level_of}
use Rattle.cc_cdcl.proofs.Levels.{in_found, level_most, same_literal}
use Rattle.cc_cdcl.proofs.Learning.{level_is, one_level, within}
use Rattle.cc_cdcl.proofs.Walking.{front_or_last, opens_at}

pub in_front : (front gone : List Step) (step : Step) → IsIn front step → IsIn (front ++ gone) step
in_front [] gone step none = absurd none
in_front (first ∷ front) gone step (inl same) = inl same
in_front (first ∷ front) gone step (inr here) = inr (in_front front gone step here)

pub behind_front : (front gone : List Step) (last : Step) → IsIn (front ++ last ∷ gone) last
behind_front [] gone last = inl refl
behind_front (first ∷ front) gone last = inr (behind_front front gone last)

rising_front : (level : ℕ) (front gone : List Step) → IsRising level (front ++ gone) → IsRising level front
rising_front level [] gone rising = tt
rising_front level (first ∷ front) gone rising = (rising.0, rising_front first.level front gone rising.1)

-- what a front makes false, the steps do
pub false_more : (front gone : List Step) (clause : List Literal) → AreFalseBy front clause → AreFalseBy (front ++ gone) clause
false_more front gone clause falsified literal here =
    let (step, inside, is) = falsified literal here in (step, in_front front gone step inside, is)

module _ (variables : ℕ) (front : List Step) (last : Step) (gone : List Step) (level_count : ℕ) (are : AreSteps variables (front ++ last ∷ gone) level_count)
    (opened : OpenLevels (front ++ last ∷ gone)) where
  opening : last.reason ≡ None → (level_after 0 front < last.level) × (last.level ≤ level_count)
  opening none = (opens_at [] front last gone opened none, within variables (front ++ last ∷ gone) level_count are last (behind_front front gone last))

  -- where no level was opened, each step has a reason
  pub no_decision : level_count ≡ 0 → last.reason ≢ None
  no_decision zero_is none = let high = opening none in omega (arith, high.0, high.1)

  only_last : last.reason ≡ None → (literal : Literal) → IsFalseBy (front ++ last ∷ []) literal → level_of (front ++ last ∷ gone) literal.variable ≡ Some level_count →
      literal ≡ opposite last.lit
  only_last none literal falsified at = elim (front_or_last front last literal falsified) [
    | inr same ↦ same
    | inl (step, inside, is) ↦
        let found = ap (step_of (front ++ last ∷ gone)) (sym (ap (λ (l : Literal). l.variable) is)) ∙
        in_found (front ++ last ∷ gone) are.apart step (in_front front (last ∷ gone) step inside) in
        let same = one_level step.level level_count (level_of (front ++ last ∷ gone) literal.variable) (level_is (front ++ last ∷ gone) literal.variable step found) at in
        let low = level_most 0 front (rising_front 0 front (last ∷ gone) are.rising) step inside in
        let high = opening none in absurd (omega (arith, high.0, high.1))
  ]

  -- A step behind which a clause with two literals of the last level is false was no decision.
  pub has_reason : (clause : List Literal) → AreFalseBy (front ++ last ∷ []) clause → HasTwoOf (front ++ last ∷ gone) level_count clause → last.reason ≢ None
  has_reason clause falsified (one, two, apart, one_in, two_in, one_at, two_at) none =
      apart (only_last none one (falsified one one_in) one_at ∙ sym (only_last none two (falsified two two_in) two_at))

-- one of two literals of a level is left in a resolvent
pub one_left : (steps : List Step) (level : ℕ) (clause reason : List Literal) (pivot : ℕ) (resolvent : List Literal) → IsFailed (values_of steps) clause →
    HasTwoOf steps level clause → IsResolvent clause reason pivot resolvent → HasOneOf steps level resolvent
one_left steps level clause reason pivot resolvent failed (one, two, apart, one_in, two_in, one_at, two_at) is = elim (eqb_tells one.variable pivot) [
  | inr other ↦ (one, (is.members one).1 (inl one_in, other.1), one_at)
  | inl same ↦ elim (eqb_tells two.variable pivot) [
    | inr other ↦ (two, (is.members two).1 (inl two_in, other.1), two_at)
    | inl too ↦ absurd (apart (same_literal one two (same.1 ∙ sym (too.1))
        (signs one.positive two.positive (values_of steps one.variable) (failed one one_in) (ap (values_of steps) (same.1 ∙ sym (too.1)) ∙ failed two two_in))))
  ]
]
  where
    signs : (p q : Bool) (value : Option Bool) → value ≡ Some (not p) → value ≡ Some (not q) → p ≡ q
    signs true true value e f = refl
    signs false false value e f = refl
    signs true false value e f = cc
    signs false true value e f = cc

-- ---- each step with no reason opens its level

pub opens_push : (before steps : List Step) (last : Step) → OpenLevelsAfter before steps → (last.reason ≡ None → level_after 0 (before ++ steps) < last.level) →
    OpenLevelsAfter before (steps ++ last ∷ [])
opens_push before [] last opened next = ((λ is. subst (λ (ss : List Step). level_after 0 ss < last.level) (append-nil before) (next is)), tt)
opens_push before (step ∷ steps) last opened next = (
  opened.0,
  opens_push (before ++ step ∷ []) steps last opened.1
      (λ is. subst (λ (ss : List Step). level_after 0 ss < last.level) (sym (append_assoc before (step ∷ []) steps)) (next is)),
)

pub opens_front : (before steps gone : List Step) → OpenLevelsAfter before (steps ++ gone) → OpenLevelsAfter before steps
opens_front before [] gone opened = tt
opens_front before (step ∷ steps) gone opened = (opened.0, opens_front (before ++ step ∷ []) steps gone opened.1)

pub opens_decided : (variables : ℕ) (trail : TrailView) (literal : Literal) → AreSteps variables trail.steps trail.level_count → OpenLevels trail.steps →
    OpenLevels (decided trail literal).steps
opens_decided variables trail literal are opened =
    opens_push [] trail.steps (record { lit = literal; level = trail.level_count + 1; reason = None }) opened (λ none. let levels = are.levels in omega arith)
