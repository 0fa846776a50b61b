use Rattle.std.proofs.Common.{arith}
use Rattle.cc_defs.proofs.Places.{from_neighbours, neighbours_more}
use Rattle.cc_defs.proofs.index.are_ordered.Goals as goal

pub loop-i-preserved : goal.loop-i-preserved
loop-i-preserved c = neighbours_more c.args.constants.now c.loop-i.i c.index-constants-i.result c.index-constants-i-in-loop-i.result
    c.loop-i.auto.i c.loop-i-test.true c.index-constants-i.is c.index-constants-i-in-loop-i.is (c.is_before.ensures c.if-not-is_before.false) c.loop-i.invariant

pub returns : goal.returns
returns c e = from_neighbours c.args.constants.now (λ d j k is less. c.loop-i.invariant d j k is (omega arith))
