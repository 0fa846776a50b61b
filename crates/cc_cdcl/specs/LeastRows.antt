-- The rows that an assignment has at positions: the first true value of each.
use Rattle.std.specs.Prelude.{◌≡◌, ℕ, ◌+◌, ◌<◌, ◌==◌, zero, suc, Bool, if◌then◌else◌, List, [], ◌∷◌}

-- of the variables of a position, of which this is the first one, just that of the index is true
abbrev pub HasIndex : ℕ → ℕ → (ℕ → Bool) → ℕ → Type 0
HasIndex first size assignment index = (value : ℕ) → value < size → assignment (first + value) ≡ (index == value)

-- which of so many variables, beginning with this one, is the first true one; their number where none is
abbrev pub true_index : (ℕ → Bool) → ℕ → ℕ → ℕ
true_index assignment first zero = 0
true_index assignment first (suc size) = if assignment first then 0 else suc (true_index assignment (first + 1) size)

abbrev pub row_from : ℕ → List ℕ → (ℕ → Bool) → List ℕ
row_from first [] assignment = []
row_from first (size ∷ sizes) assignment = true_index assignment first size ∷ row_from (first + size) sizes assignment

-- the first true value of each position
abbrev pub row_of : List ℕ → (ℕ → Bool) → List ℕ
row_of sizes assignment = row_from 1 sizes assignment
