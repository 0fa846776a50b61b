use Rattle.std.proofs.Common.{◌≡◌, take}
use Rattle.cc_form.specs.Making.{picked}
use Rattle.cc_form.proofs.groups.pick.Given as goal

abbrev pub invariant-loop-number : goal.invariant-loop-number
invariant-loop-number l = l.out.items ≡ picked l.bodies (take l.number-index l.numbers)
