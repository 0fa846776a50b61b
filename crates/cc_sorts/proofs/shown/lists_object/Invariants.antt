use Rattle.std.proofs.Common.{◌≡◌, drop}
use Rattle.cc_sorts.specs.Numbers.{has}
use Rattle.cc_sorts.proofs.shown.lists_object.Given as goal

abbrev pub invariant-loop-other : goal.invariant-loop-other
invariant-loop-other l = has l.object (drop l.other-index l.list) ≡ has l.object l.list
