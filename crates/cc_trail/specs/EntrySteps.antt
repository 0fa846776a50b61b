-- What changes of entries do.
use Rattle.std.specs.Prelude.{◌≡◌, ℕ, ◌+◌, ◌%◌, ◌<◌, ◌≤◌, ◌==◌, Bool, true, false, if◌then◌else◌, Option, Some, None, List, [], ◌∷◌, ◌++◌}
use Rattle.cc_trail.specs.declared.entries.Step.{Step}
use Rattle.cc_trail.specs.declared.entries.Standing.{Standing}
use Rattle.cc_defs.specs.Clauses.{Literal, opposite, IsIn}
use Rattle.cc_trail.specs.Steps.{EntriesView, step_of, steps_to}

-- the last step was taken away
pub record IsPopped (old new : EntriesView) : Type 0 where
  pub last : Step
  pub variables : new.variables ≡ old.variables
  pub steps : old.steps ≡ new.steps ++ last ∷ []
  pub level : last.level ≡ old.level_count
  pub falls : new.level_count ≤ old.level_count
  pub by_one : old.level_count ≤ new.level_count + 1

-- the steps of levels above this one were taken away, and these were the last ones
pub record IsBack (old new : EntriesView) (level : ℕ) : Type 0 where
  pub gone : List Step
  pub variables : new.variables ≡ old.variables
  pub level_count : new.level_count ≡ level
  pub steps : new.steps ≡ steps_to level old.steps
  pub front : old.steps ≡ new.steps ++ gone
  pub high : (step : Step) → IsIn gone step → level < step.level

-- whether a mark tells that the literal of this sign is true
abbrev pub is_true_by : ℕ → Bool → Bool
is_true_by mark positive = if positive then mark % 2 == 1 else (mark % 2 == 0)

-- a step of this level makes the literal true, or else false
abbrev pub IsValued : List Step → Literal → ℕ → Bool → Type 0
IsValued steps literal level true = (step : Step) × IsIn steps step × (step.lit ≡ literal) × (step.level ≡ level)
IsValued steps literal level false = (step : Step) × IsIn steps step × (step.lit ≡ opposite literal) × (step.level ≡ level)

abbrev pub Stands : List Step → Literal → Option Standing → Type 0
Stands steps literal None = step_of steps literal.variable ≡ None
Stands steps literal (Some standing) = IsValued steps literal standing.level standing.is_true
