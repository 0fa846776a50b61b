use Rattle.std.proofs.Common.{◌≡◌}
use Rattle.cc_cdcl.proofs.probe.Probe.first.Given as goal

abbrev pub invariant-loop : goal.invariant-loop
invariant-loop l = l.self.phase ≡ l.initial.self.phase
