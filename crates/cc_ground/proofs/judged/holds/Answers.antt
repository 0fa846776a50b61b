use Rattle.cc_defs.specs.Judged.{chosen}
use Rattle.cc_ground.specs.Pieces.{universe_at}
use Rattle.cc_ground.proofs.Totals.{more_total, no_total}
use Rattle.cc_ground.proofs.judged.holds.Goals as goal

pub returns-in_default : goal.returns-in_default
returns-in_default c =
    let equation = c.args.equation.now in
    no_total (universe_at equation) (chosen equation.constants.now c.args.indexes.now) equation.sign equation.pieces.now c.loop-signed.signed-index c.loop-signed.total.plus c.loop-signed.total.minus
    _ _ c.loop-signed-test.true c.in_default.ensures c.loop-signed.invariant

pub loop-signed-preserved : goal.loop-signed-preserved
loop-signed-preserved c =
    let equation = c.args.equation.now in
    more_total (universe_at equation) (chosen equation.constants.now c.args.indexes.now) equation.pieces.now c.loop-signed.signed-index c.loop-signed.total.plus c.loop-signed.total.minus _ _ _ _ _
    c.loop-signed-test.true c.in-Some.ensures c.in_ok-total.ensures c.loop-signed.invariant
