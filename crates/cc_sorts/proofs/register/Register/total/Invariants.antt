use Rattle.std.proofs.Common.{◌≡◌, min, length, take}
use Rattle.cc_sorts.specs.Instances.{instances_from}
use Rattle.cc_sorts.specs.Shown.{shown}
use Rattle.cc_sorts.proofs.register.Register.total.Given as goal

abbrev pub invariant-loop-number : goal.invariant-loop-number
invariant-loop-number l = l.total ≡ min (length (instances_from (shown l.self).sorts l.actions 0 (take l.number l.self.symbols))) 20001
