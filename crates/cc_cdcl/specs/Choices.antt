-- The choice of literals by which the first row that is found is the least one.
use Rattle.std.specs.Prelude.{◌≡◌, ℕ, ◌+◌, ◌<◌, ◌⊎◌, true, false, List, [], ◌∷◌, ◌++◌, Some, None}
use Rattle.cc_defs.specs.Assignments.{Values, HasNoValue}
use Rattle.cc_defs.specs.Clauses.{Literal}
use Rattle.cc_defs.specs.ClauseForms.{positive}
use Rattle.cc_trail.specs.declared.entries.Step.{Step}
use Rattle.cc_trail.specs.Steps.{values_of}

-- one of so many variables is true, of which this is the first one
abbrev pub HasTrueValue : ℕ → ℕ → Values → Type 0
HasTrueValue first size values = (value : ℕ) × (value < size) × (values (first + value) ≡ Some true)

-- the least value of a position that is not false; it is not true either
abbrev pub IsLeastOpen : ℕ → ℕ → Values → Literal → Type 0
IsLeastOpen first size values literal =
    (value : ℕ) × (value < size) × (literal ≡ positive (first + value)) × HasNoValue values literal ×
    ((lower : ℕ) → lower < value → values (first + lower) ≡ Some false)

-- The literal is what is chosen next: the least value that is not false of the first position with no true value. Where each
-- position has one, it is any variable that has no value, as a negative literal.
abbrev pub IsNextFrom : ℕ → List ℕ → Values → Literal → Type 0
IsNextFrom first [] values literal = HasNoValue values literal × (literal.positive ≡ false)
IsNextFrom first (size ∷ sizes) values literal =
    (HasTrueValue first size values × IsNextFrom (first + size) sizes values literal)
    ⊎ ((HasTrueValue first size values → ⊥) × IsLeastOpen first size values literal)

abbrev pub IsNext : List ℕ → Values → Literal → Type 0
IsNext sizes values literal = IsNextFrom 1 sizes values literal

-- each of these steps that has no reason was the next choice, by the steps before it
abbrev pub AreChosenAfter : List ℕ → List Step → List Step → Type 0
AreChosenAfter sizes before [] = Unit {0}
AreChosenAfter sizes before (step ∷ steps) =
    (step.reason ≡ None → IsNext sizes (values_of before) step.lit) × AreChosenAfter sizes (before ++ step ∷ []) steps

abbrev pub AreChosen : List ℕ → List Step → Type 0
AreChosen sizes steps = AreChosenAfter sizes [] steps
