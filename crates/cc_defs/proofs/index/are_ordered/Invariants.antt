use Rattle.cc_defs.proofs.Places.{AreNeighbours}
use Rattle.cc_defs.proofs.index.are_ordered.Given as goal

abbrev pub invariant-loop-i : goal.invariant-loop-i
invariant-loop-i l = AreNeighbours l.i l.constants
