-- What is read of the parts of the sorts.
use Rattle.std.proofs.Common.{◌≡◌, ℕ, ◌<◌, List, length, get_or, sym, subst, ap, Vec, Global}
use Rattle.cc_sorts.specs.declared.sorts.Sorts.TheInside.{Inside}
use Rattle.cc_sorts.specs.Dictionaries.{names_of}
use Rattle.cc_sorts.specs.Lists.{lists_of, list_at, AreBelow}
use Rattle.cc_sorts.specs.Numbers.{Ascends}
use Rattle.cc_sorts.specs.SortParts.{AreKept}
use Rattle.cc_sorts.specs.SortViews.{SortsView}
use Rattle.cc_sorts.proofs.Growing.{seen}
use Rattle.cc_sorts.proofs.Vectors.{list_read, ascends_at}

abbrev pub IsKept : Inside → Type 0
IsKept inside = AreKept (names_of inside.names) inside.pairs.items inside.known.keys (lists_of inside.above.items) (lists_of inside.below.items) (lists_of inside.members.items)

abbrev pub seen_inside : Inside → SortsView
seen_inside inside = seen (names_of inside.names) inside.pairs.items (lists_of inside.members.items)

module _ (inside : Inside) (view : SortsView) (is : seen_inside inside ≡ view) (kept : IsKept inside) (sort : ℕ) (there : sort < length view.names) where
  pub within : sort < length (names_of inside.names)
  within = subst (λ (n : ℕ). sort < n) (sym (ap (λ (v : SortsView). length v.names) is)) there

  module _ (old : Vec ℕ Global) (list : List ℕ) (same : list ≡ old.items) where
    pub read_above : old ≡ get_or inside.above.items sort old → list ≡ list_at (lists_of inside.above.items) sort
    read_above there = list_read inside.above.items sort (length (names_of inside.names)) old list kept.above_are.as_many within there same

    pub read_below : old ≡ get_or inside.below.items sort old → list ≡ list_at (lists_of inside.below.items) sort
    read_below there = list_read inside.below.items sort (length (names_of inside.names)) old list kept.below_are.as_many within there same

  pub above_below : AreBelow (length (names_of inside.names)) (list_at (lists_of inside.above.items) sort)
  above_below = kept.above_are.within sort within

  pub above_ascend : Ascends (list_at (lists_of inside.above.items) sort)
  above_ascend = ascends_at (lists_of inside.above.items) sort kept.above_are.ascend
