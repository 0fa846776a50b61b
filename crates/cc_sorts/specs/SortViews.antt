-- What sorts are: their names by number, the pairs of them with the last first, and the numbers of the objects of each.
use Rattle.std.specs.Prelude.{ℕ, ◌<◌, if◌then◌else◌, List, [], ◌∷◌, ◌++◌, slice_index_or}
use Rattle.std.specs.List.{AllByRecursion}
use Rattle.cc_defs.specs.Declarations.{Pair, boolean, is_below}
use Rattle.cc_sorts.specs.Numbers.{Ascends, union}

pub record SortsView : Type 0 where
  pub names : List (List ℕ)
  pub pairs : List Pair
  pub members : List (List ℕ)

abbrev pub no_sorts : SortsView
no_sorts = record { names = []; pairs = []; members = [] }

abbrev pub first_sorts : SortsView
first_sorts = record { names = boolean ∷ []; pairs = []; members = (0 ∷ 1 ∷ []) ∷ [] }

abbrev pub name_at : SortsView → ℕ → List ℕ
name_at sorts sort = slice_index_or sorts.names sort []

abbrev pub members_at : SortsView → ℕ → List ℕ
members_at sorts sort = slice_index_or sorts.members sort []

-- what the lists become: those of the sorts that the given one is below are changed
abbrev pub changed_above : List Pair → List ℕ → (List ℕ → List ℕ) → List (List ℕ) → List (List ℕ) → List (List ℕ)
changed_above pairs sort change [] lists = []
changed_above pairs sort change names [] = []
changed_above pairs sort change (name ∷ names) (list ∷ lists) =
    (if is_below pairs sort name then change list else list) ∷ changed_above pairs sort change names lists

abbrev pub with_sort : SortsView → List ℕ → SortsView
with_sort sorts name = record { names = sorts.names ++ name ∷ []; pairs = sorts.pairs; members = sorts.members ++ [] ∷ [] }

-- Behind a pair the sorts above its upper sort, and that sort itself, have the objects of its lower sort too.
abbrev pub with_pair : SortsView → ℕ → ℕ → SortsView
with_pair sorts upper lower = record {
  names = sorts.names;
  pairs = (name_at sorts upper, name_at sorts lower) ∷ sorts.pairs;
  members = changed_above sorts.pairs (name_at sorts upper) (λ list. union list (members_at sorts lower)) sorts.names sorts.members;
}

-- Behind a pair that follows from the others only that pair is new.
abbrev pub with_implied : SortsView → ℕ → ℕ → SortsView
with_implied sorts upper lower = record {
  names = sorts.names;
  pairs = (name_at sorts upper, name_at sorts lower) ∷ sorts.pairs;
  members = sorts.members;
}

-- Behind an object's declaration its sort and those above it have it last.
abbrev pub with_object : SortsView → ℕ → ℕ → SortsView
with_object sorts sort object = record {
  names = sorts.names;
  pairs = sorts.pairs;
  members = changed_above sorts.pairs (name_at sorts sort) (λ list. list ++ object ∷ []) sorts.names sorts.members;
}

abbrev pub AllAscend : List (List ℕ) → Type 0
AllAscend lists = AllByRecursion Ascends lists

-- the object is past all that are there
abbrev pub IsPast : ℕ → SortsView → Type 0
IsPast object sorts = AllByRecursion (λ list. AllByRecursion (λ member. member < object) list) sorts.members
