-- The steps of a trail: the literals that became true, in order, each with its level and, where it was propagated, its reason.
use Rattle.std.specs.Prelude.{◌≡◌, ◌≢◌, ℕ, ◌≤◌, ◌⊎◌, ◌==◌, nat_le, suc, Bool, if◌then◌else◌, List, [], ◌∷◌, filter, Option, Some, None, option_map, option_and_then}
use Rattle.cc_defs.specs.Assignments.{Values}
use Rattle.cc_defs.specs.Limits.{most_variables}
use Rattle.cc_trail.specs.declared.entries.Step.{Step}
use Rattle.cc_defs.specs.Clauses.{IsIn, IsLiteralOver}

-- the number of variables, the steps in order, and how many levels were opened
pub record EntriesView : Type 0 where
  pub variables : ℕ
  pub steps : List Step
  pub level_count : ℕ

-- the step of a variable
abbrev pub step_of : List Step → ℕ → Option Step
step_of [] variable = None
step_of (step ∷ steps) variable = if step.lit.variable == variable then Some step else step_of steps variable

abbrev pub sign_of : Step → Bool
sign_of step = step.lit.positive

-- what the steps make true and false
abbrev pub values_of : List Step → Values
values_of steps variable = option_map sign_of (step_of steps variable)

abbrev pub sign_to : ℕ → Step → Option Bool
sign_to level step = if nat_le step.level level then Some step.lit.positive else None

-- what the steps of the levels up to this one make true and false
abbrev pub values_to : ℕ → List Step → Values
values_to level steps variable = option_and_then (sign_to level) (step_of steps variable)

-- the steps of the levels up to this one
abbrev pub steps_to : ℕ → List Step → List Step
steps_to level steps = filter (λ step. nat_le step.level level) steps

-- the level of the last step
abbrev pub level_after : ℕ → List Step → ℕ
level_after level [] = level
level_after level (step ∷ steps) = level_after step.level steps

-- levels never fall, and none is left out
abbrev pub IsRising : ℕ → List Step → Type 0
IsRising level [] = Unit {0}
IsRising level (step ∷ steps) = ((step.level ≡ level) ⊎ (step.level ≡ suc level)) × IsRising step.level steps

-- no variable has two steps
abbrev pub AreApart : List Step → Type 0
AreApart [] = Unit {0}
AreApart (step ∷ steps) = ((other : Step) → IsIn steps other → other.lit.variable ≢ step.lit.variable) × AreApart steps

-- what is true of the steps of each trail
pub record AreSteps (variables : ℕ) (steps : List Step) (level_count : ℕ) : Type 0 where
  pub variables_few : variables ≤ most_variables
  pub over : (step : Step) → IsIn steps step → IsLiteralOver variables step.lit
  pub apart : AreApart steps
  pub rising : IsRising 0 steps
  pub levels : level_count ≡ level_after 0 steps
