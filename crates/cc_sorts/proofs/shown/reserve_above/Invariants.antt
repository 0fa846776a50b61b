use Rattle.std.proofs.Common.{◌≡◌, ◌+◌, ◌<◌, ◌≤◌, ℕ, length, slice_index_or}
use Rattle.cc_sorts.specs.Lists.{lists_of, capacities_of}
use Rattle.cc_sorts.specs.SortViews.{members_at}
use Rattle.cc_sorts.proofs.shown.reserve_above.Given as goal

abbrev pub invariant-widening : goal.invariant-widening
invariant-widening l = record {
  same : lists_of l.lists.items ≡ lists_of l.fn.lists.items;
  room : (k : ℕ) → k < l.number-index → length (members_at l.sorts (slice_index_or l.numbers k 0)) + l.more ≤ slice_index_or (capacities_of l.lists.items) (slice_index_or l.numbers k 0) 0;
}
