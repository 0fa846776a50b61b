-- A clause that is false by a settled trail, and the clause that is learned from it.
use Rattle.std.proofs.Common.{◌≡◌, ◌≢◌, ◌∙◌, ℕ, ◌<◌, ◌≤◌, zero, suc, inl, inr, not, List, Option, Some, option_map, refl, ap, arith}
use Rattle.std.specs.Prelude.{◌⊎◌, Contains}
use Rattle.std.proofs.lemmas.Bool.Decides.{leb_tells}
use Rattle.cc_defs.specs.Assignments.{IsFailed, IsFalseIn}
use Rattle.cc_defs.specs.Clauses.{Literal, IsIn}
use Rattle.cc_trail.specs.declared.entries.Step.{Step}
use Rattle.cc_trail.specs.Steps.{AreApart, AreSteps, step_of, steps_to, values_of, values_to}
use Rattle.cc_trail.specs.Trails.{IsSettledOver, KeepsSettled, level_of_step}
use Rattle.cc_cdcl.specs.Analysis.{HasTwoOf, IsLearned, level_of}
use Rattle.cc_cdcl.specs.Laws.{FalseClauseHasTwo, LearnedIsEarned}
use Rattle.cc_cdcl.proofs.Levels.{has_step, level_most, none_back, to_higher, to_lower}
use Rattle.cc_cdcl.proofs.Picking.{pick}

pub level_is : (steps : List Step) (variable : ℕ) (step : Step) → step_of steps variable ≡ Some step → level_of steps variable ≡ Some step.level
level_is steps variable step at = ap (option_map level_of_step) at

pub one_level : (a b : ℕ) (level : Option ℕ) → level ≡ Some a → level ≡ Some b → a ≡ b
one_level a b level e f = cc

module _ (variables : ℕ) (steps : List Step) (level_count : ℕ) (are : AreSteps variables steps level_count) where
  pub within : (step : Step) → IsIn steps step → step.level ≤ level_count
  within step here = let most = level_most 0 steps are.rising step here in let is = are.levels in omega arith

  -- of the last level, or false by the levels below
  last_or_lower : (lower : ℕ) → level_count ≡ suc lower → (literal : Literal) → IsFalseIn (values_of steps) literal →
      IsFalseIn (values_to lower steps) literal ⊎ (level_of steps literal.variable ≡ Some level_count)
  last_or_lower lower is literal falsified =
      let (step, inside, at, variable, sign) = has_step steps literal.variable (not literal.positive) falsified in
      let most = within step inside in
      elim (leb_tells step.level lower) [
        | inl low ↦ inl (to_lower lower step.level (step_of steps literal.variable) (level_is steps literal.variable step at) (low.1) ∙ falsified)
        | inr high ↦ let above : lower < step.level = high.1 in inr (level_is steps literal.variable step at ∙ ap (λ (n : ℕ). Some n) (omega arith))
      ]

  two : (clauses : List (List Literal)) (clause : List Literal) → IsSettledOver steps level_count clauses → Contains clauses clause → IsFailed (values_of steps) clause →
      (lower : ℕ) → level_count ≡ suc lower → HasTwoOf steps level_count clause
  two clauses clause settled here failed lower is =
      let closed = settled lower (omega arith) in
      elim (pick (λ literal. IsFalseIn (values_to lower steps) literal) (λ literal. level_of steps literal.variable ≡ Some level_count) clause
      (λ literal inside. last_or_lower lower is literal (failed literal inside))) [
        | inl all ↦ absurd (closed.none_failed clause here all)
        | inr (inl (left, member, last, others)) ↦ absurd (closed.none_unit clause here (record {
          left = left;
          member = member;
          open_yet = to_higher lower level_count (step_of steps left.variable) last (omega arith);
          others = others;
        }))
        | inr (inr found) ↦ found
      ]

-- ---- clauses that keep a trail settled, once the levels above one are gone

module _ (steps : List Step) (apart : AreApart steps) (top : ℕ) (clause : List Literal) where
  learned_mild : (back : ℕ) → IsLearned steps top clause back → KeepsSettled (steps_to back steps) back clause
  learned_mild back is level low = elim (is.reached) [
    | inl zero_is ↦ absurd (omega arith)
    | inr (other, inside, at) ↦ inr (
      is.left,
      other,
      differ other at,
      is.member,
      inside,
      none_back level back top steps is.left.variable apart is.last (let lower = is.lower in omega arith),
      none_back level back back steps other.variable apart at low,
    )
  ]
    where
      differ : (other : Literal) → level_of steps other.variable ≡ Some back → is.left ≢ other
      differ other at e =
          let same = one_level top back (level_of steps is.left.variable) is.last (ap (λ (l : Literal). level_of steps l.variable) e ∙ at) in
          let lower = is.lower in absurd (omega arith)

pub two_of_last : FalseClauseHasTwo
two_of_last variables steps zero clauses clause are settled here failed = inl refl
two_of_last variables steps (suc lower) clauses clause are settled here failed = inr (two variables steps (suc lower) are clauses clause settled here failed lower refl)

pub learned : LearnedIsEarned
learned variables steps level_count clauses clause back are settled is = (
  (record {
    values = values_to back steps;
    closed = settled back is.lower;
    unit = record {
      left = is.left;
      member = is.member;
      open_yet = to_higher back level_count (step_of steps is.left.variable) is.last is.lower;
      others = λ literal here. elim (is.others literal here) [
        | inl same ↦ inl same
        | inr (level, low, at) ↦ inr (to_lower back level (step_of steps literal.variable) at low ∙ is.failed literal here)
      ];
    };
  }),
  learned_mild steps are.apart level_count clause back is,
)
