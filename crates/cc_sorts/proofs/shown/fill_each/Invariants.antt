use Rattle.std.proofs.Common.{◌≡◌, ◌<◌, ◌≤◌, ℕ, drop, length, slice_index_or}
use Rattle.cc_sorts.specs.Lists.{lists_of, capacities_of}
use Rattle.cc_sorts.specs.Shown.{shown_list, set_each}
use Rattle.cc_sorts.specs.SortViews.{members_at}
use Rattle.cc_sorts.proofs.shown.fill_each.Given as goal

-- what is left to do here gives the whole
abbrev pub invariant-filling : goal.invariant-filling
invariant-filling l = record {
  whole : set_each (drop l.number-index l.numbers) (λ number. shown_list l.puts (members_at l.sorts number)) (lists_of l.lists.items)
      ≡ set_each l.numbers (λ number. shown_list l.puts (members_at l.sorts number)) (lists_of l.fn.lists.items);
  count : length (lists_of l.lists.items) ≡ length (lists_of l.fn.lists.items);
  room : (k : ℕ) → l.number-index ≤ k → k < length l.numbers →
      length (members_at l.sorts (slice_index_or l.numbers k 0)) ≤ slice_index_or (capacities_of l.lists.items) (slice_index_or l.numbers k 0) 0;
}
