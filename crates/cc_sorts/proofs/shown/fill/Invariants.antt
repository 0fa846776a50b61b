use Rattle.std.proofs.Common.{◌≡◌, ◌<◌, ◌≤◌, length, take}
use Rattle.std.specs.List.{AllByRecursion}
use Rattle.std.specs.Vec.{vec_capacity}
use Rattle.cc_sorts.specs.Shown.{shown_list}
use Rattle.cc_sorts.proofs.shown.fill.Given as goal

abbrev pub invariant-filling : goal.invariant-filling
invariant-filling l = record {
  shown : l.list.items ≡ shown_list l.puts (take l.number-index l.numbers);
  below : AllByRecursion (λ y. y < l.bound) l.list.items;
  count : length l.list.items ≤ l.number-index;
  room : length l.numbers ≤ vec_capacity l.list;
}
