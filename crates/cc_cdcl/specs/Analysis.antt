-- Conflict analysis: clauses that are false by the steps of a trail, and the clause that is learned from one.
use Rattle.std.specs.Prelude.{◌≡◌, ◌≢◌, ℕ, ◌+◌, ◌<◌, ◌≤◌, ◌⊎◌, ◌==◌, nat_lt, max, min, Bool, false, if◌then◌else◌, List, [], ◌∷◌, ◌++◌, Contains, take, Option, Some, None, option_map, unwrap_or}
use Rattle.cc_defs.specs.Assignments.{IsFailed}
use Rattle.cc_defs.specs.Clauses.{Literal}
use Rattle.cc_trail.specs.declared.entries.Step.{Step}
use Rattle.cc_trail.specs.Steps.{step_of, level_after, values_of}
use Rattle.cc_trail.specs.Trails.{level_of_step}
use Rattle.cc_trail.specs.Watches.{IsFalseBy}

-- the level of a variable that has a value
abbrev pub level_of : List Step → ℕ → Option ℕ
level_of steps variable = option_map level_of_step (step_of steps variable)

-- each literal of a clause is false by a step
abbrev pub AreFalseBy : List Step → List Literal → Type 0
AreFalseBy steps clause = (literal : Literal) → Contains clause literal → IsFalseBy steps literal

-- a literal of the clause is of the level
abbrev pub HasOneOf : List Step → ℕ → List Literal → Type 0
HasOneOf steps level clause = (literal : Literal) × Contains clause literal × (level_of steps literal.variable ≡ Some level)

abbrev pub is_level : ℕ → Option ℕ → Bool
is_level level None = false
is_level level (Some other) = other == level

-- a level is there, and it is below this one
abbrev pub is_level_below : ℕ → Option ℕ → Bool
is_level_below level None = false
is_level_below level (Some other) = nat_lt other level

-- how many literals of the clause are of the level
abbrev pub level_count_in : List Step → ℕ → List Literal → ℕ
level_count_in steps level [] = 0
level_count_in steps level (literal ∷ literals) =
    (if is_level level (level_of steps literal.variable) then 1 else 0) + level_count_in steps level literals

abbrev pub level_but : ℕ → Option ℕ → ℕ
level_but level None = 0
level_but level (Some other) = if other == level then 0 else other

-- the highest level but this one of the clause's literals, or 0
abbrev pub highest_but : List Step → ℕ → List Literal → ℕ
highest_but steps level [] = 0
highest_but steps level (literal ∷ literals) = max (level_but level (level_of steps literal.variable)) (highest_but steps level literals)

-- the level of a variable, or 0
abbrev pub level_or_zero : List Step → ℕ → ℕ
level_or_zero steps variable = unwrap_or (level_of steps variable) 0

-- the highest level of the clause's literals, or 0
abbrev pub first_level : List Step → List Literal → ℕ
first_level steps [] = 0
first_level steps (literal ∷ literals) = max (level_or_zero steps literal.variable) (first_level steps literals)

-- the highest level but one of the clause's literals, where each literal counts, or 0
abbrev pub second_level : List Step → List Literal → ℕ
second_level steps [] = 0
second_level steps (literal ∷ literals) =
    max (min (level_or_zero steps literal.variable) (first_level steps literals)) (second_level steps literals)

-- two literals of the clause are of the level
abbrev pub HasTwoOf : List Step → ℕ → List Literal → Type 0
HasTwoOf steps level clause =
    (one : Literal) × (two : Literal) × (one ≢ two) × Contains clause one × Contains clause two × (level_of steps one.variable ≡ Some level) ×
    (level_of steps two.variable ≡ Some level)

-- A clause is false by the steps in front of a place, and unless no level was opened it has a literal of the last level.
pub record IsWalking (steps : List Step) (level_count place : ℕ) (clause : List Literal) : Type 0 where
  pub falsified : AreFalseBy (take place steps) clause
  pub left : (level_count ≡ 0) ⊎ HasOneOf steps level_count clause

-- it may be resolved on
abbrev pub MayResolve : List Step → ℕ → List Literal → Type 0
MayResolve steps level_count clause = (level_count ≡ 0) ⊎ HasTwoOf steps level_count clause

-- it is to be resolved on: two of its literals are of the last level, or no level was opened and it is not empty
abbrev pub IsUnfinished : List Step → ℕ → List Literal → Type 0
IsUnfinished steps level_count clause = ((level_count ≡ 0) × (clause ≢ [])) ⊎ HasTwoOf steps level_count clause

-- it is what analysis derives: one of its literals is of the last level, or no level was opened and it is empty
abbrev pub IsFinal : List Step → ℕ → List Literal → Type 0
IsFinal steps level_count clause = ((level_count ≡ 0) × (clause ≡ [])) ⊎ ((0 < level_count) × (level_count_in steps level_count clause ≡ 1))

-- A false clause of which one literal is of the last level, and the others are of levels up to a lower one, which is reached
-- unless it is 0.
pub record IsLearned (steps : List Step) (level_count : ℕ) (clause : List Literal) (back : ℕ) : Type 0 where
  pub failed : IsFailed (values_of steps) clause
  pub left : Literal
  pub member : Contains clause left
  pub last : level_of steps left.variable ≡ Some level_count
  pub others : (literal : Literal) → Contains clause literal → (literal ≡ left) ⊎ ((level : ℕ) × (level ≤ back) × (level_of steps literal.variable ≡ Some level))
  pub lower : back < level_count
  pub reached : (back ≡ 0) ⊎ HasOneOf steps back clause

-- each of these steps that has no reason opens its level
abbrev pub OpenLevelsAfter : List Step → List Step → Type 0
OpenLevelsAfter before [] = Unit {0}
OpenLevelsAfter before (step ∷ steps) = (step.reason ≡ None → level_after 0 before < step.level) × OpenLevelsAfter (before ++ step ∷ []) steps

abbrev pub OpenLevels : List Step → Type 0
OpenLevels steps = OpenLevelsAfter [] steps
