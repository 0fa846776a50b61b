use Rattle.std.proofs.Common.{◌≡◌, ◌<◌, ◌≤◌, ℕ, true, false, drop, length, slice_index_or}
use Rattle.cc_sorts.specs.Lists.{lists_of, list_at, at_each}
use Rattle.cc_sorts.specs.Numbers.{has}
use Rattle.cc_sorts.specs.Shown.{put_end, HasSpace}
use Rattle.cc_sorts.proofs.shown.show_each.Given as goal

-- what is left to do here gives the whole
abbrev pub invariant-showing : goal.invariant-showing
invariant-showing l = record {
  whole : at_each (drop l.number-index l.numbers) (put_end l.object) (lists_of l.lists.items) ≡ at_each l.numbers (put_end l.object) (lists_of l.fn.lists.items);
  count : length (lists_of l.lists.items) ≡ length (lists_of l.fn.lists.items);
  room : (k : ℕ) → l.number-index ≤ k → k < length l.numbers → HasSpace l.lists.items 1 (slice_index_or l.numbers k 0);
  others : l.fresh ≡ true → (k : ℕ) → l.number-index ≤ k → k < length l.numbers → has l.object (list_at (lists_of l.lists.items) (slice_index_or l.numbers k 0)) ≡ false;
}
