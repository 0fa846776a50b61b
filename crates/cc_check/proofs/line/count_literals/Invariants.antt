use Rattle.std.proofs.Common.{length}
use Rattle.cc_check.proofs.Counted.{LiteralsCounted}
use Rattle.cc_check.proofs.line.count_literals.Given as goal

abbrev pub invariant-loop-rest : goal.invariant-loop-rest
invariant-loop-rest l = LiteralsCounted l.fn.text l.count l.rest

abbrev pub decreases-loop-rest : goal.decreases-loop-rest
decreases-loop-rest l = length l.rest
