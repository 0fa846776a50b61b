use Rattle.std.proofs.Common.{arith}
use Rattle.cc_cdcl.proofs.Levelling.{over_at}
use Rattle.cc_cdcl.proofs.analysis.brought.Goals as goal

pub is_brought-requires-clause-within : goal.is_brought-requires-clause-within
is_brought-requires-clause-within c =
    let over = over_at c.args.trail.now.variables c.args.clause.now c.loop-lit.lit-index c.lit-item.result c.requires.over c.loop-lit-test.true c.lit-item.is in
    omega (arith, over.1)
