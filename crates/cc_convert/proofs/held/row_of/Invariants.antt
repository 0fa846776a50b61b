use Rattle.std.proofs.Common.{◌≡◌, ◌++◌, length}
use Rattle.cc_check.specs.Readers.{numbers_of}
use Rattle.cc_convert.proofs.held.row_of.Given as goal

abbrev pub invariant-loop-index : goal.invariant-loop-index
invariant-loop-index l = l.indexes.items ++ numbers_of l.rest ≡ numbers_of l.row

abbrev pub decreases-loop-index : goal.decreases-loop-index
decreases-loop-index l = length (numbers_of l.rest)
