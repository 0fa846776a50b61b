use Rattle.cc_ground.proofs.Ranging.{laws_lack, laws_more, same_actions}
use Rattle.cc_ground.proofs.Putting.{lacks_so}
use Rattle.cc_ground.proofs.maker.Maker.add_all.Goals as goal

pub returns-in_err-add_base_law-clause-full : goal.returns-in_err-add_base_law-clause-full
returns-in_err-add_base_law-clause-full c =
    let halt = c.in_err-add_base_law.field-0.0 in
    lacks_so _ _ halt c.from_residual-in_err-add_base_law.result c.from_residual-in_err-add_base_law.ensures.1
    (laws_lack c.args.laws.now c.index-laws-base.result c.in_ok-narrow.field-0 c.loop-base.base halt c.loop-base.invariant c.loop-base-test.true c.index-laws-base.is c.in_ok-narrow.ensures
    c.in_err-add_base_law.ensures.full)

pub loop-base-preserved : goal.loop-base-preserved
loop-base-preserved c =
    laws_more c.args.laws.now c.index-laws-base.result c.in_ok-narrow.field-0 c.loop-base.base c.loop-base.invariant c.loop-base-test.true c.index-laws-base.is c.in_ok-narrow.ensures
    c.in_ok-add_base_law.ensures.made

pub add_base_law-requires-clause-actions : goal.add_base_law-requires-clause-actions
add_base_law-requires-clause-actions c = same_actions _ _ _ c.requires.actions c.loop-base.invariant.like
