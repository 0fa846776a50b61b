use Rattle.std.proofs.Common.{length}
use Rattle.cc_trail.proofs.Backs.{IsGoing}
use Rattle.cc_trail.proofs.entries.Entries.back_to.Given as goal

abbrev pub invariant-loop-self : goal.invariant-loop-self
invariant-loop-self l = IsGoing l.initial.self l.self l.level

abbrev pub decreases-loop-self : goal.decreases-loop-self
decreases-loop-self l = length l.self.steps
