use Rattle.cc_tell.proofs.Calls.{called_gives}
use Rattle.cc_tell.proofs.GivenSteps.{step_given, step_failed}
use Rattle.cc_tell.proofs.refusing.give.Goals as goal

pub returns-in-Ok : goal.returns-in-Ok
returns-in-Ok g c = step_given c.args.to c.args.bytes.now _ _ _ c.in-Ok.ensures.all c.give_all.ensures.begun c.give_all.ensures.reads_count c.give_all.ensures.writes_count
    (called_gives c.args.to _ _ c.give_all.ensures.calls) c.in-Ok.ensures.calm

pub returns-in-Err : goal.returns-in-Err
returns-in-Err g c =
    let some = c.in-Err.ensures.some in
    step_failed c.args.to some.0 c.args.bytes.now _ _ some.1 some.2 c.give_all.ensures.begun c.give_all.ensures.reads_count c.give_all.ensures.writes_count c.in-Err.ensures.failed
    (called_gives c.args.to _ _ c.give_all.ensures.calls)
