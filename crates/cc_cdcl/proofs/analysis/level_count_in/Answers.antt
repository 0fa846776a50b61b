use Rattle.std.proofs.Common.{arith}
use Rattle.cc_cdcl.proofs.Levelling.{over_at}
use Rattle.cc_cdcl.proofs.analysis.level_count_in.Goals as goal

pub is_of-requires : goal.is_of-requires
is_of-requires c =
    let over = over_at c.args.trail.now.variables c.args.clause.now c.loop-lit.lit-index c.lit-item.result c.requires c.loop-lit-test.true c.lit-item.is in
    let same = c.variable.ensures in omega (arith, over.1)
