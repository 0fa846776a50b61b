-- What the parts of the sorts say of each other. Lists are by number of a sort; pairs are in declared order.
use Rattle.std.specs.Prelude.{◌≡◌, ℕ, ◌<◌, ◌≤◌, Bool, true, false, ◌==◌, ◌&&◌, List, [], ◌∷◌, length}
use Rattle.std.specs.List.{AllByRecursion, list_any}
use Rattle.cc_defs.specs.Grammar.{same_text}
use Rattle.cc_defs.specs.Declarations.{Pair, is_below}
use Rattle.cc_sorts.specs.declared.sorts.SortPair.{SortPair}
use Rattle.cc_sorts.specs.Lists.{list_at, AllAscend, AreBelow}
use Rattle.cc_sorts.specs.Numbers.{has}

-- the pairs by names, the last first, before those that are done
abbrev pub named_behind : List (List ℕ) → List Pair → List SortPair → List Pair
named_behind names done [] = done
named_behind names done (pair ∷ pairs) = named_behind names ((list_at names pair.upper, list_at names pair.lower) ∷ done) pairs

abbrev pub named_pairs : List (List ℕ) → List SortPair → List Pair
named_pairs names pairs = named_behind names [] pairs

abbrev pub same_numbers : SortPair → SortPair → Bool
same_numbers pair other = pair.upper == other.upper && pair.lower == other.lower

-- the pairs that are known are those of a list
abbrev pub AreKnown : List SortPair → List SortPair → Type 0
AreKnown known pairs = (pair : SortPair) → list_any (same_numbers pair) known ≡ list_any (same_numbers pair) pairs

-- it is of two sorts that are there
abbrev pub IsWithin : ℕ → SortPair → Type 0
IsWithin count pair = (pair.upper < count) × (pair.lower < count) × ((pair.upper == pair.lower) ≡ false)

abbrev pub AreDistinct : List (List ℕ) → Type 0
AreDistinct names = (i j : ℕ) → i < length names → j < length names → same_text (list_at names i) (list_at names j) ≡ true → i ≡ j

-- these lists are, for each sort, those that stand to it as the test says
pub record AreThose (count : ℕ) (test : ℕ → ℕ → Bool) (lists : List (List ℕ)) : Type 0 where
  pub as_many : length lists ≡ count
  pub those : (i j : ℕ) → i < count → j < count → has j (list_at lists i) ≡ test i j
  pub within : (i : ℕ) → i < count → AreBelow count (list_at lists i)
  pub ascend : AllAscend lists

pub record AreKept (names : List (List ℕ)) (pairs known : List SortPair) (above below members : List (List ℕ)) : Type 0 where
  pub few : length names ≤ 4000000000
  pub distinct : AreDistinct names
  pub pairs_within : AllByRecursion (IsWithin (length names)) pairs
  pub known_are : AreKnown known pairs
  pub above_are : AreThose (length names) (λ i j. is_below (named_pairs names pairs) (list_at names i) (list_at names j)) above
  pub below_are : AreThose (length names) (λ i j. is_below (named_pairs names pairs) (list_at names j) (list_at names i)) below
  pub members_count : length members ≡ length names
  pub members_ascend : AllAscend members
