use Rattle.std.proofs.Common.{length}
use Rattle.cc_silent.proofs.RowTexts.{IndexesSoFar}
use Rattle.cc_silent.proofs.general.indexes_of.Given as goal

abbrev pub invariant-loop-index : goal.invariant-loop-index
invariant-loop-index l = IndexesSoFar l.fn.text l.row.items l.rest

abbrev pub decreases-loop-index : goal.decreases-loop-index
decreases-loop-index l = length l.rest
