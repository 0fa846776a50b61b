use Rattle.std.proofs.Common.{length}
use Rattle.cc_check.proofs.Counted.{CountedSoFar}
use Rattle.cc_check.proofs.line.count_numbers.Given as goal

abbrev pub invariant-loop-rest : goal.invariant-loop-rest
invariant-loop-rest l = CountedSoFar l.fn.text l.count l.last l.rest

abbrev pub decreases-loop-rest : goal.decreases-loop-rest
decreases-loop-rest l = length l.rest
