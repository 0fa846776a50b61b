-- A search upwards from a sort: names that were found, and those above each.
use Rattle.std.specs.Prelude.{◌≡◌, ℕ, Bool, true, ◌||◌, if◌then◌else◌, List, [], ◌++◌, take, length}
use Rattle.std.specs.List.{list_any, filter}
use Rattle.cc_defs.specs.Declarations.{Declaration, pairs, is_below}
use Rattle.cc_defs.specs.Grammar.{same_text}
use Rattle.cc_sorts.specs.Lefts.{IsLeft, new_uppers}
use Rattle.cc_sorts.specs.SortViews.{SortsView}
use Rattle.cc_sorts.specs.declared.left.Left.{Left}
use denote.Bor.{Bor}

abbrev pub is_in : List ℕ → List (Bor (List ℕ)) → Bool
is_in name found = list_any (λ key. same_text name key.now) found

abbrev pub same_key : Bor (List ℕ) → Bor (List ℕ) → Bool
same_key key other = same_text key.now other.now

-- these names were added behind those that were found
pub record Grows (old new : List (Bor (List ℕ))) (names : List (List ℕ)) : Type 0 where
  pub more : List (Bor (List ℕ))
  pub is_more : new ≡ old ++ more
  pub has : (name : List ℕ) → is_in name new ≡ (is_in name old || list_any (same_text name) names)

-- the sorts above a sort of a table, and the sort itself
abbrev pub table_uppers : SortsView → List ℕ → List (List ℕ)
table_uppers sorts name = if list_any (same_text name) sorts.names then filter (is_below sorts.pairs name) sorts.names else []

abbrev pub all_uppers : Left → List ℕ → List (List ℕ)
all_uppers left name = table_uppers left.table.now.sorts name ++ new_uppers left name

-- the sorts above these by the table were found
abbrev pub AreClosed : Left → List (Bor (List ℕ)) → List (Bor (List ℕ)) → Type 0
AreClosed left closed found =
    (name upper : List ℕ) → is_in name closed ≡ true → list_any (same_text upper) (table_uppers left.table.now.sorts name) ≡ true → is_in upper found ≡ true

-- the sort was found, only sorts above it were, and those above the first ones
pub record IsSearched (left : Left) (lower : List ℕ) (found : List (Bor (List ℕ))) (done : ℕ) : Type 0 where
  pub from : is_in lower found ≡ true
  pub sound : (name : List ℕ) → is_in name found ≡ true → (declarations : List Declaration) → IsLeft left declarations → is_below (pairs declarations) lower name ≡ true
  pub closed : (name upper : List ℕ) → is_in name (take done found) ≡ true → list_any (same_text upper) (all_uppers left name) ≡ true → is_in upper found ≡ true

-- all sorts above it were found
abbrev pub IsClosed : Left → List ℕ → List (Bor (List ℕ)) → Type 0
IsClosed left lower found = IsSearched left lower found (length found)
