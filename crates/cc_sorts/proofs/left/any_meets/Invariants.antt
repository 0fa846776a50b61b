use Rattle.std.proofs.Common.{◌≡◌, drop}
use Rattle.std.specs.List.{list_any}
use Rattle.cc_sorts.specs.Lefts.{meets}
use Rattle.cc_sorts.proofs.left.any_meets.Given as goal

abbrev pub invariant-loop-range : goal.invariant-loop-range
invariant-loop-range l = list_any (meets l.low l.high l.sort) (drop l.range-index l.ranges) ≡ list_any (meets l.low l.high l.sort) l.ranges
