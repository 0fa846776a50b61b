use Rattle.std.proofs.Common.{◌≡◌}
use Rattle.cc_cdcl.proofs.probe.Probe.first_idle.Given as goal

abbrev pub invariant-loop-variable : goal.invariant-loop-variable
invariant-loop-variable l = l.self.phase ≡ l.initial.self.phase
