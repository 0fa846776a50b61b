use Rattle.std.proofs.Common.{◌≡◌}
use Rattle.cc_cdcl.proofs.probe.Probe.take_back.Given as goal

abbrev pub invariant-loop-place : goal.invariant-loop-place
invariant-loop-place l = l.self.phase ≡ l.initial.self.phase
