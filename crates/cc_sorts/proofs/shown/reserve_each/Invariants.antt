use Rattle.std.proofs.Common.{◌≡◌, ◌<◌, ℕ, slice_index_or}
use Rattle.cc_sorts.specs.Lists.{lists_of}
use Rattle.cc_sorts.specs.Shown.{HasSpace}
use Rattle.cc_sorts.proofs.shown.reserve_each.Given as goal

abbrev pub invariant-widening : goal.invariant-widening
invariant-widening l = record {
  same : lists_of l.lists.items ≡ lists_of l.fn.lists.items;
  room : (k : ℕ) → k < l.number-index → HasSpace l.lists.items 1 (slice_index_or l.numbers k 0);
}
