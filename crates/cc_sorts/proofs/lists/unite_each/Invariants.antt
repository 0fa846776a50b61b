use Rattle.std.proofs.Common.{◌≡◌, ◌<◌, ◌≤◌, ℕ, drop, length, slice_index_or}
use Rattle.std.specs.Vec.{vec_capacity}
use Rattle.cc_sorts.specs.Lists.{lists_of, at_each, HasRoom, AllAscend}
use Rattle.cc_sorts.specs.Numbers.{union}
use Rattle.cc_sorts.proofs.lists.unite_each.Given as goal

-- what is left to do here gives the whole
abbrev pub invariant-widening : goal.invariant-widening
invariant-widening l = record {
  whole : at_each (drop l.number-index l.numbers) (λ list. union list l.others) (lists_of l.lists.items) ≡ at_each l.numbers (λ list. union list l.others) (lists_of l.fn.lists.items);
  count : length (lists_of l.lists.items) ≡ length (lists_of l.fn.lists.items);
  ascend : AllAscend (lists_of l.lists.items);
  kept : vec_capacity l.fn.moved ≤ vec_capacity l.moved;
  room : (k : ℕ) → l.number-index ≤ k → k < length l.numbers → HasRoom l.lists.items (length l.others) (vec_capacity l.moved) (slice_index_or l.numbers k 0);
}
