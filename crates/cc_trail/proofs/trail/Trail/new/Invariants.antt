use Rattle.cc_trail.proofs.Starting.{IsStarting}
use Rattle.cc_trail.proofs.trail.Trail.new.Given as goal

abbrev pub invariant-loop-index : goal.invariant-loop-index
invariant-loop-index l = IsStarting l.trail l.kernel l.index
