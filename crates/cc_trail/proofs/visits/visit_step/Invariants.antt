use Rattle.std.proofs.Common.{length}
use Rattle.cc_trail.specs.Visits.{AreGrown, IsVisiting}
use Rattle.cc_trail.proofs.visits.visit_step.Given as goal

abbrev pub invariant-loop-node : goal.invariant-loop-node
invariant-loop-node l = IsVisiting l.kernel l.longs l.place l.step l.entries l.links × AreGrown l.fn.entries l.entries

abbrev pub decreases-loop-node : goal.decreases-loop-node
decreases-loop-node l = length l.links.ahead
