use Rattle.std.proofs.Common.{◌≡◌, None, take}
use Rattle.std.specs.List.{find}
use Rattle.cc_defs.specs.DeclarationFaults.{is_empty}
use Rattle.cc_sorts.specs.Instances.{instances_from}
use Rattle.cc_sorts.specs.Shown.{shown}
use Rattle.cc_sorts.proofs.register.Register.first_empty.Given as goal

abbrev pub invariant-loop-number : goal.invariant-loop-number
invariant-loop-number l = find is_empty (instances_from (shown l.self).sorts l.actions 0 (take l.number l.self.symbols)) ≡ None
