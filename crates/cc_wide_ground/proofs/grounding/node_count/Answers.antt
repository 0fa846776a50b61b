use Rattle.std.proofs.Common.{arith}
use Rattle.cc_wide_ground.proofs.WideCounts.{counted_all, counted_more}
use Rattle.cc_wide_ground.proofs.grounding.node_count.Goals as goal

pub loop-law-preserved : goal.loop-law-preserved
loop-law-preserved c = (
  omega (arith, c.with_law-count.ensures),
  counted_more c.args.laws.now c.loop-law.law-index c.loop-law.count c.with_law-count.result _ c.loop-law-test.true c.with_law-count.ensures c.loop-law.invariant.1,
)

pub returns : goal.returns
returns c = counted_all c.args.laws.now c.loop-law.law-index c.loop-law.count (omega arith) c.loop-law.invariant.0 c.loop-law.invariant.1
