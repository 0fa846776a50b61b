use Rattle.std.proofs.Common.{length}
use Rattle.cc_trail.specs.Trails.{Fits, IsDropped}
use Rattle.cc_trail.proofs.trail.Trail.drop_covered.Given as goal

abbrev pub invariant-loop-self : goal.invariant-loop-self
invariant-loop-self l = Fits l.self l.kernel × IsDropped l.initial.self l.self

abbrev pub decreases-loop-self : goal.decreases-loop-self
decreases-loop-self l = length l.self.longs
