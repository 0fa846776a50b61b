use Rattle.cc_trail.proofs.Following.{IsFollowing}
use Rattle.cc_trail.proofs.visits.visit_pairs.Given as goal

abbrev pub invariant-loop-other : goal.invariant-loop-other
invariant-loop-other l = IsFollowing l.kernel l.other-items l.other-index l.place l.fn.entries l.entries
