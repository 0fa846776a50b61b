use Rattle.std.proofs.Common.{length}
use Rattle.cc_convert.proofs.SectionLines.{AreReadTo}
use Rattle.cc_convert.proofs.lines.lines_of.Given as goal

abbrev pub invariant-loop-rest : goal.invariant-loop-rest
invariant-loop-rest l = AreReadTo l.form l.section l.own l.rest l.said.items

abbrev pub decreases-loop-rest : goal.decreases-loop-rest
decreases-loop-rest l = length l.rest
