-- How the parts of entries make what their holder sees, and what is always true of them.
use Rattle.std.specs.Prelude.{◌≡◌, ℕ, ◌+◌, ◌*◌, ◌≤◌, ◌==◌, suc, if◌then◌else◌, List, [], ◌∷◌, length, map, take, get_or, Option, Some, None}
use Rattle.cc_defs.specs.Clauses.{Literal}
use Rattle.cc_trail.specs.declared.entries.Step.{Step}
use Rattle.cc_trail.specs.declared.entries.Entries.TheInside.{Inside}
use Rattle.cc_trail.specs.Steps.{EntriesView, AreSteps, step_of}

-- one more than the place of a variable's step, counted from `before`, or 0
abbrev pub place_from : ℕ → List Step → ℕ → ℕ
place_from before [] variable = 0
place_from before (step ∷ steps) variable = if step.lit.variable == variable then suc before else place_from (suc before) steps variable

abbrev pub literal_of_step : Step → Literal
literal_of_step step = step.lit

abbrev pub view_of : Inside → EntriesView
view_of entries = record {
  variables = entries.variables;
  steps = take entries.count entries.steps.items;
  level_count = entries.level_count;
}

pub record IsKept (variables count : ℕ) (steps : List Step) (literals : List Literal) (places : List ℕ) (level_count : ℕ) : Type 0 where
  pub count_few : count ≤ variables
  pub steps_count : length steps ≡ variables
  pub literals_count : length literals ≡ variables
  pub places_count : length places ≡ variables + 1
  pub literals_are : take count literals ≡ map literal_of_step (take count steps)
  pub places_are : (variable : ℕ) → variable ≤ variables → get_or places variable 0 ≡ place_from 0 (take count steps) variable
  pub are_steps : AreSteps variables (take count steps) level_count

-- the level and the sign of a step in one number, and 0 where there is none
abbrev pub mark_of : Option Step → ℕ
mark_of None = 0
mark_of (Some step) = 2 * (step.level + 1) + (if step.lit.positive then 1 else 0)

-- by variable, what its step tells
pub record AreMarked (variables : ℕ) (steps : List Step) (marks : List ℕ) : Type 0 where
  pub count : length marks ≡ variables + 1
  pub marks_are : (variable : ℕ) → variable ≤ variables → get_or marks variable 0 ≡ mark_of (step_of steps variable)

abbrev pub IsKeptIn : Inside → Type 0
IsKeptIn entries = IsKept entries.variables entries.count entries.steps.items entries.literals.items entries.places.items entries.level_count

pub record AreEntries (entries : Inside) : Type 0 where
  pub kept : IsKeptIn entries
  pub marked : AreMarked entries.variables (take entries.count entries.steps.items) entries.marks.items
