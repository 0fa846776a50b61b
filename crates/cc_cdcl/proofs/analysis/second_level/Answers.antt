use Rattle.std.proofs.Common.{arith}
use Rattle.cc_cdcl.proofs.Levelling.{over_at}
use Rattle.cc_cdcl.proofs.analysis.second_level.Goals as goal

pub level_or_zero-level-requires : goal.level_or_zero-level-requires
level_or_zero-level-requires c =
    let over = over_at c.args.trail.now.variables c.args.clause.now c.loop-lit.lit-index c.lit-item.result c.requires c.loop-lit-test.true c.lit-item.is in
    let same = c.variable.ensures in omega (arith, over.1)
