-- Watched literals (two watched literals a clause; Moskewicz and others, Chaff, 2001).
use Rattle.std.specs.Prelude.{◌≡◌, ◌≢◌, ℕ, ◌+◌, ◌-◌, ◌%◌, ◌<◌, ◌≤◌, ◌⊎◌, ◌==◌, if◌then◌else◌, List, [], ◌∷◌, ◌++◌, length, Contains, Some}
use Rattle.cc_defs.specs.Clauses.{Literal, opposite, IsNumbered, IsIn}
use Rattle.cc_trail.specs.declared.entries.Step.{Step}
use Rattle.cc_trail.specs.Links.{watched_at}

-- a step makes the literal true, at a level not above this one
abbrev pub IsTrueBy : List Step → Literal → ℕ → Type 0
IsTrueBy steps literal level = (step : Step) × IsIn steps step × (step.lit ≡ literal) × (step.level ≤ level)

-- a step makes the literal false
abbrev pub IsFalseBy : List Step → Literal → Type 0
IsFalseBy steps literal = (step : Step) × IsIn steps step × (step.lit ≡ opposite literal)

-- the node of the other watched literal of the same clause
abbrev pub partner : ℕ → ℕ
partner node = if node % 2 == 1 then node - 1 else node + 1

-- Where a visited step makes the watched literal of a node false, the other watched literal is true, at a level not above
-- that of the false one.
abbrev pub IsWatched : List Step → List Step → List Literal → ℕ → Type 0
IsWatched visited steps watched node =
    (step : Step) → IsIn visited step → step.lit ≡ opposite (watched_at watched node) → IsTrueBy steps (watched_at watched (partner node)) step.level

-- a node and its partner watch two literals of the clause of a number, or both of them one that is true at level 0
pub record Watches (clauses : List (List Literal)) (steps : List Step) (number : ℕ) (watched : List Literal) (node : ℕ) : Type 0 where
  pub clause : List Literal
  pub numbered : IsNumbered clauses number clause
  pub here : Contains clause (watched_at watched node)
  pub there : Contains clause (watched_at watched (partner node))
  pub apart : (watched_at watched node ≢ watched_at watched (partner node)) ⊎ IsTrueBy steps (watched_at watched node) 0

-- the clause has this literal, and its other literals are the opposites of those of the steps
abbrev pub HasReason : List (List Literal) → List Step → Literal → ℕ → Type 0
HasReason clauses before literal number =
    (clause : List Literal) × IsNumbered clauses number clause × Contains clause literal ×
    ((other : Literal) → Contains clause other → (other ≡ literal) ⊎ IsFalseBy before other)

-- each reason of these steps holds, where others stand before them
abbrev pub AreReasonedAfter : List (List Literal) → List Step → List Step → Type 0
AreReasonedAfter clauses before [] = Unit {0}
AreReasonedAfter clauses before (step ∷ steps) =
    ((number : ℕ) → step.reason ≡ Some number → HasReason clauses before step.lit number) × AreReasonedAfter clauses (before ++ step ∷ []) steps

-- the reason of a step is a clause that has its literal and whose other literals are the opposites of earlier ones
abbrev pub AreReasoned : List (List Literal) → List Step → Type 0
AreReasoned clauses steps = AreReasonedAfter clauses [] steps

-- a clause of fewer than two literals
abbrev pub IsShort : List (List Literal) → ℕ → Type 0
IsShort clauses number = (clause : List Literal) × IsNumbered clauses number clause × (length clause < 2)

-- the clause of this number has a literal that is true at level 0
abbrev pub IsMetForGood : List (List Literal) → List Step → ℕ → Type 0
IsMetForGood clauses steps number =
    (clause : List Literal) × IsNumbered clauses number clause × (literal : Literal) × Contains clause literal × IsTrueBy steps literal 0

-- two different literals of a clause
abbrev pub AreTwoOf : List Literal → Literal → Literal → Type 0
AreTwoOf clause first second = Contains clause first × Contains clause second × (first ≢ second)
