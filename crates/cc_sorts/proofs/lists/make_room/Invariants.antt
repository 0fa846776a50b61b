use Rattle.std.proofs.Common.{◌≡◌, ◌<◌, ◌≤◌, ℕ, slice_index_or}
use Rattle.std.specs.Vec.{vec_capacity}
use Rattle.cc_sorts.specs.Lists.{lists_of, HasRoom}
use Rattle.cc_sorts.proofs.lists.make_room.Given as goal

abbrev pub invariant-widening : goal.invariant-widening
invariant-widening l = record {
  same : lists_of l.lists.items ≡ lists_of l.fn.lists.items;
  grown : vec_capacity l.fn.moved ≤ vec_capacity l.moved;
  room : (k : ℕ) → k < l.number-index → HasRoom l.lists.items l.more (vec_capacity l.moved) (slice_index_or l.numbers k 0);
}
