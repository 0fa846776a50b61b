use Rattle.std.proofs.Common.{◌≡◌}
use Rattle.cc_cdcl.proofs.probe.Probe.note_staged.Given as goal

abbrev pub invariant-loop-lit : goal.invariant-loop-lit
invariant-loop-lit l = l.self.phase ≡ l.initial.self.phase
