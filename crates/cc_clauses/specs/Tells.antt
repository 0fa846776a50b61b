-- What clauses tell: which rows meet them, and with how many assignments.
use Rattle.std.specs.Prelude.{◌≡◌, ℕ, ◌<◌, ◌≤◌, ◌↔◌, Bool, List}
use Rattle.cc_defs.specs.Rows.{IsRow}
use Rattle.cc_defs.specs.Sections.{Axioms}
use Rattle.cc_clauses.specs.RowsOf.{HasRow, IsRowOf, MeetsAll}

-- a row is that of at most one assignment to the variables that meets the clauses
abbrev pub IsOnce : Axioms → List ℕ → Type 0
IsOnce axioms row = (one other : ℕ → Bool) → HasRow axioms.sizes one row → HasRow axioms.sizes other row →
    MeetsAll one axioms.clauses → MeetsAll other axioms.clauses →
    (variable : ℕ) → 0 < variable → variable ≤ axioms.variables → one variable ≡ other variable

-- The rows of the clauses are these rows, each is that of exactly one assignment to their variables, and an assignment that meets
-- them has a row.
pub record Tells (axioms : Axioms) (Is : List ℕ → Type 0) : Type 0 where
  pub rows : (row : List ℕ) → IsRowOf axioms.sizes axioms.clauses row ↔ Is row
  pub once : (row : List ℕ) → IsOnce axioms row
  pub each : (assignment : ℕ → Bool) → MeetsAll assignment axioms.clauses →
      (row : List ℕ) × HasRow axioms.sizes assignment row × IsRow axioms.sizes row
