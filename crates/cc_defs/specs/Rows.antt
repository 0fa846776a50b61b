-- Rows: interpretations of a horizon, as lists of value indexes, and their order.
use Rattle.std.specs.Prelude.{◌≡◌, ℕ, ◌<◌, List, [], ◌∷◌}
use Rattle.std.specs.Ordering.{nat_cmp}
use Rattle.std.specs.declared.cmp.Ordering.{Ordering}
use Rattle.std.specs.declared.cmp.Ordering.TheVariants.{Less}
use Rattle.std.specs.Cmp.Lexicographic.{slice_cmp}

-- a row of positions with these sizes: as long, and each index is below its size
abbrev pub IsRow : List ℕ → List ℕ → Type 0
IsRow [] [] = Unit {0}
IsRow (size ∷ sizes) (index ∷ row) = (index < size) × IsRow sizes row
IsRow [] (index ∷ row) = ⊥
IsRow (size ∷ sizes) [] = ⊥

-- the order of rows of one length: the first position at which they differ decides
abbrev pub row_cmp : List ℕ → List ℕ → Ordering
row_cmp a b = slice_cmp nat_cmp a b

abbrev pub IsBelow : List ℕ → List ℕ → Type 0
IsBelow a b = row_cmp a b ≡ Less
