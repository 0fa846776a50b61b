use Rattle.std.proofs.Common.{take}
use Rattle.cc_trail.specs.Watches.{AreTwoOf}
use Rattle.cc_trail.proofs.watches.best_two.Given as goal

abbrev pub invariant-loop-index : goal.invariant-loop-index
invariant-loop-index l = AreTwoOf (take l.index l.clause) l.best.first.lit l.best.second.lit
