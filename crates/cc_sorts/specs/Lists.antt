-- Lists of numbers that stand in vectors, what becomes of those at some numbers, and the room that there is for it.
use Rattle.std.specs.Prelude.{ℕ, ◌+◌, ◌<◌, ◌≤◌, List, [], ◌∷◌, length, map, slice_index_or, slice_set}
use Rattle.std.specs.declared.vec.Vec.{Vec}
use Rattle.std.specs.List.{AllByRecursion}
pub use Rattle.cc_sorts.specs.SortViews.{AllAscend}

abbrev pub lists_of : {Z : Type 0} → List (Vec ℕ Z) → List (List ℕ)
lists_of vectors = map (λ vector. vector.items) vectors

abbrev pub capacities_of : {Z : Type 0} → List (Vec ℕ Z) → List ℕ
capacities_of vectors = map (λ vector. vector.cap) vectors

abbrev pub list_at : List (List ℕ) → ℕ → List ℕ
list_at lists number = slice_index_or lists number []

-- the lists at these numbers are changed, one after another
abbrev pub at_each : List ℕ → (List ℕ → List ℕ) → List (List ℕ) → List (List ℕ)
at_each [] change lists = lists
at_each (number ∷ numbers) change lists = at_each numbers change (slice_set lists number (change (list_at lists number)))

-- there is room for more in the list at a number, and room to move it
abbrev pub HasRoom : {Z : Type 0} → List (Vec ℕ Z) → ℕ → ℕ → ℕ → Type 0
HasRoom vectors more to_move number =
    (length (list_at (lists_of vectors) number) + more ≤ slice_index_or (capacities_of vectors) number 0)
    × (length (list_at (lists_of vectors) number) ≤ to_move)

abbrev pub HaveRoom : {Z : Type 0} → List (Vec ℕ Z) → ℕ → ℕ → List ℕ → Type 0
HaveRoom vectors more to_move numbers = (k : ℕ) → k < length numbers → HasRoom vectors more to_move (slice_index_or numbers k 0)

abbrev pub AreBelow : ℕ → List ℕ → Type 0
AreBelow count numbers = AllByRecursion (λ number. number < count) numbers
