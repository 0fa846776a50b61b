use Rattle.std.proofs.Common.{length}
use Rattle.cc_dimacs.proofs.FirstLines.{length_here, length_more, length_all, line_as}
use Rattle.cc_dimacs.proofs.lines.next_line.Goals as goal

pub loop-i-preserved : goal.loop-i-preserved
loop-i-preserved c = length_more c.args.text.now c.loop-i.i c.loop-i-test.true c.loop-i.invariant c.if-byte-eq10.false

pub returns-then-byte-eq10-clause-lines : goal.returns-then-byte-eq10-clause-lines
returns-then-byte-eq10-clause-lines c =
    line_as c.args.text.now c.split_at.result.0.now c.split_at.result.1.now _ c.requires
    (length_here c.args.text.now c.loop-i.i c.loop-i-test.true c.loop-i.invariant c.if-byte-eq10.true) c.split_at.ensures.front c.split_at.ensures.back

pub returns-clause-lines : goal.returns-clause-lines
returns-clause-lines c =
    line_as c.args.text.now c.split_at-2.result.0.now c.split_at-2.result.1.now (length c.args.text.now) c.requires
    (length_all c.args.text.now c.loop-i.i c.loop-i-test.false c.loop-i.auto.i-end c.loop-i.invariant) c.split_at-2.ensures.front c.split_at-2.ensures.back
