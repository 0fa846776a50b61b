use Rattle.cc_ground.proofs.Querying.{asked_lack, asked_made, asked_more, asked_room}
use Rattle.cc_ground.proofs.Putting.{err_if, err_on, lacks_so}
use Rattle.cc_ground.specs.declared.maker.Halt.TheVariants as halts
use Rattle.cc_ground.proofs.maker.Maker.conditions.Goals as goal

pub returns-in_err-condition-clause-full : goal.returns-in_err-condition-clause-full
returns-in_err-condition-clause-full c =
    let halt = c.in_err-condition.field-0.0 in
    lacks_so _ _ halt c.from_residual.result c.from_residual.ensures.1
    (asked_lack c.args.conditions.now c.condition-item.result c.loop-condition.condition-index halt c.loop-condition.invariant c.loop-condition-test.true c.condition-item.is c.in_err-condition.ensures.full)

pub returns-in_err-push-clause-made : goal.returns-in_err-push-clause-made
returns-in_err-push-clause-made c = err_if _ c.from_residual-in_err-push.result c.from_residual-in_err-push.ensures.0

pub returns-in_err-push-clause-room : goal.returns-in_err-push-clause-room
returns-in_err-push-clause-room c = err_on _ c.from_residual-in_err-push.result c.from_residual-in_err-push.ensures.0

pub returns-in_err-push-clause-like : goal.returns-in_err-push-clause-like
returns-in_err-push-clause-like c = err_on _ c.from_residual-in_err-push.result c.from_residual-in_err-push.ensures.0

pub returns-in_err-push-clause-full : goal.returns-in_err-push-clause-full
returns-in_err-push-clause-full c = lacks_so _ _ halts.OutOfMemory c.from_residual-in_err-push.result c.from_residual-in_err-push.ensures.1 tt

pub loop-condition-preserved : goal.loop-condition-preserved
loop-condition-preserved c =
    let made = c.in_ok-condition.ensures in
    asked_more c.args.conditions.now c.condition-item.result c.loop-condition.condition-index c.push.new.self.items c.condition.new.self c.in_ok-condition.field-0 c.loop-condition.invariant c.loop-condition-test.true c.condition-item.is
    c.in_ok-push.ensures.items made.made made.room made.like

pub returns-clause-made : goal.returns-clause-made
returns-clause-made c = asked_made c.args.conditions.now c.loop-condition.condition-index c.loop-condition.invariant c.loop-condition-test.false

pub returns-clause-room : goal.returns-clause-room
returns-clause-room c = asked_room c.args.conditions.now c.loop-condition.condition-index c.loop-condition.invariant c.loop-condition-test.false
