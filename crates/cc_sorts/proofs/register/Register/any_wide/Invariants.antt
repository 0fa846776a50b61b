use Rattle.std.proofs.Common.{◌≡◌, false, take}
use Rattle.cc_defs.specs.DeclarationFaults.{passes_domain_values}
use Rattle.cc_sorts.specs.Instances.{instances_from}
use Rattle.cc_sorts.specs.Shown.{shown}
use Rattle.cc_sorts.proofs.register.Register.any_wide.Given as goal

abbrev pub invariant-loop-number : goal.invariant-loop-number
invariant-loop-number l = passes_domain_values (instances_from (shown l.self).sorts l.actions 0 (take l.number l.self.symbols)) ≡ false
