-- Clause lists in parts: the clauses of positions, and what clauses behind them say of a row.
use Rattle.std.specs.Prelude.{◌≡◌, ℕ, ◌+◌, Bool, true, List, [], ◌∷◌, ◌++◌, length}
use Rattle.cc_defs.specs.ClauseForms.{Made, positive, true_variable}
use Rattle.cc_defs.specs.ClauseLists.{Asserted, positions_from}
use Rattle.cc_defs.specs.Clauses.{Literal, is_made_true, meets}
use Rattle.cc_defs.specs.Rows.{IsRow}
use Rattle.cc_defs.specs.Sections.{Axioms}
use Rattle.cc_clauses.specs.RowsOf.{HasRow}

-- ---- the list

-- clauses of positions: T, and that each position has exactly one value
abbrev pub first_clauses : List ℕ → List (List Literal)
first_clauses sizes = (positive (true_variable sizes) ∷ []) ∷ positions_from 1 sizes

-- the axioms of positions with these clauses behind them
abbrev pub axioms_behind : List ℕ → Asserted → Axioms
axioms_behind sizes made = record { sizes = sizes; variables = made.last; clauses = first_clauses sizes ++ made.clauses }

-- one part behind another
abbrev pub joined_parts : Asserted → Asserted → Asserted
joined_parts one other = record { last = other.last; clauses = one.clauses ++ other.clauses }

-- ---- assignments

-- the variables behind a number have these values
abbrev pub Agrees : (ℕ → Bool) → ℕ → List Bool → Type 0
Agrees assignment last [] = Unit {0}
Agrees assignment last (value ∷ values) = (assignment (last + 1) ≡ value) × Agrees assignment (last + 1) values

-- the clauses are all met
abbrev pub AllMet : (ℕ → Bool) → List (List Literal) → Type 0
AllMet assignment [] = Unit {0}
AllMet assignment (clause ∷ clauses) = (meets assignment clause ≡ true) × AllMet assignment clauses

-- The clauses of a term are met exactly where the variables that it makes have these values, and then its literal is worth this.
pub record IsTermTold (assignment : ℕ → Bool) (last : ℕ) (made : Made) (values : List Bool) (worth : Bool) : Type 0 where
  pub ends : made.last ≡ last + length values
  pub meets : AllMet assignment made.clauses → Agrees assignment last values
  pub agrees : Agrees assignment last values → AllMet assignment made.clauses
  pub literal : Agrees assignment last values → is_made_true assignment made.literal ≡ worth

-- Clauses are met exactly where the variables that they make have these values, and this holds.
pub record AreAsserted (assignment : ℕ → Bool) (last : ℕ) (made : Asserted) (given : List Bool) (Holds : Type 0) : Type 0 where
  pub ends : made.last ≡ last + length given
  pub meets : AllMet assignment made.clauses → Agrees assignment last given
  pub holds : AllMet assignment made.clauses → Holds
  pub agrees : Agrees assignment last given → Holds → AllMet assignment made.clauses

-- ---- what clauses say

-- What clauses behind a last variable say: for each row there are values of the variables behind it such that an assignment that has
-- the row and makes T true meets the clauses exactly where it has these values and the row is one of these.
pub record SaysFrom (sizes : List ℕ) (last : ℕ) (made : Asserted) (Is : List ℕ → Type 0) : Type 0 where
  pub given : List ℕ → List Bool
  pub says : (row : List ℕ) → IsRow sizes row → (a : ℕ → Bool) → HasRow sizes a row → a (true_variable sizes) ≡ true →
      AreAsserted a last made (given row) (Is row)

-- of clauses behind those of positions
abbrev pub Says : List ℕ → Asserted → (List ℕ → Type 0) → Type 0
Says sizes made Is = SaysFrom sizes (true_variable sizes) made Is

-- The same where the variables behind a number have values that are known by row: those that the parts before make.
pub record SaysBehind (sizes : List ℕ) (start : ℕ) (before : List ℕ → List Bool) (last : ℕ) (made : Asserted) (Is : List ℕ → Type 0) : Type 0 where
  pub given : List ℕ → List Bool
  pub ends : (row : List ℕ) → IsRow sizes row → made.last ≡ last + length (given row)
  pub says : (row : List ℕ) → IsRow sizes row → (a : ℕ → Bool) → HasRow sizes a row → a (true_variable sizes) ≡ true → Agrees a start (before row) →
      AreAsserted a last made (given row) (Is row)

-- what a literal is worth there, by row
pub record IsWorth (sizes : List ℕ) (start : ℕ) (before : List ℕ → List Bool) (literal : Literal) (worth : List ℕ → Bool) : Type 0 where
  pub is : (row : List ℕ) → IsRow sizes row → (a : ℕ → Bool) → HasRow sizes a row → a (true_variable sizes) ≡ true → Agrees a start (before row) →
      is_made_true a literal ≡ worth row

-- and what each of these is worth
abbrev pub AreWorth : List ℕ → ℕ → (List ℕ → List Bool) → List Literal → List (List ℕ → Bool) → Type 0
AreWorth sizes start before [] [] = Unit {0}
AreWorth sizes start before (literal ∷ literals) (worth ∷ worths) = IsWorth sizes start before literal worth × AreWorth sizes start before literals worths
AreWorth sizes start before [] (worth ∷ worths) = ⊥
AreWorth sizes start before (literal ∷ literals) [] = ⊥
