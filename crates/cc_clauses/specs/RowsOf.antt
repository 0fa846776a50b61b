-- Clauses whose first variables are the atoms of positions: which rows meet them.
use Rattle.std.specs.Prelude.{◌≡◌, ℕ, ◌+◌, ◌<◌, ◌⊎◌, ◌==◌, Bool, IsTrue, List, [], ◌∷◌, Contains}
use Rattle.cc_defs.specs.Clauses.{Literal, meets}
use Rattle.cc_defs.specs.Rows.{IsRow, IsBelow}

-- an assignment meets all of the clauses
abbrev pub MeetsAll : (ℕ → Bool) → List (List Literal) → Type 0
MeetsAll assignment clauses = (clause : List Literal) → Contains clauses clause → IsTrue (meets assignment clause)

-- of the variables of positions with these sizes, from this first one on, just those of the row's atoms are true
abbrev pub HasRowFrom : ℕ → List ℕ → (ℕ → Bool) → List ℕ → Type 0
HasRowFrom first [] assignment row = Unit {0}
HasRowFrom first (size ∷ sizes) assignment [] = ⊥
HasRowFrom first (size ∷ sizes) assignment (index ∷ row) =
    ((value : ℕ) → value < size → assignment (first + value) ≡ (index == value)) × HasRowFrom (first + size) sizes assignment row

abbrev pub HasRow : List ℕ → (ℕ → Bool) → List ℕ → Type 0
HasRow sizes assignment row = HasRowFrom 1 sizes assignment row

-- a row of clauses: some assignment that has it meets them all
pub record IsRowOf (sizes : List ℕ) (clauses : List (List Literal)) (row : List ℕ) : Type 0 where
  pub is_row : IsRow sizes row
  pub assignment : ℕ → Bool
  pub has : HasRow sizes assignment row
  pub meets_all : MeetsAll assignment clauses

-- the least of them
pub record IsLeastRowOf (sizes : List ℕ) (clauses : List (List Literal)) (row : List ℕ) : Type 0 where
  pub one : IsRowOf sizes clauses row
  pub least : (other : List ℕ) → IsRowOf sizes clauses other → (other ≡ row) ⊎ IsBelow row other
