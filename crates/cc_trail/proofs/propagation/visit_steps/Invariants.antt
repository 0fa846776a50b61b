use Rattle.std.proofs.Common.{◌-◌}
use Rattle.cc_trail.specs.Visits.{AreGrown, IsPropagating}
use Rattle.cc_trail.proofs.propagation.visit_steps.Given as goal

abbrev pub invariant-loop-visited : goal.invariant-loop-visited
invariant-loop-visited l = IsPropagating l.kernel l.longs l.pairs l.visited l.entries l.links × AreGrown l.fn.entries l.entries

abbrev pub decreases-loop-visited : goal.decreases-loop-visited
decreases-loop-visited l = l.kernel.variables - l.visited
