use Rattle.std.proofs.Common.{◌∙◌}
use Rattle.cc_ports.specs.declared.desk.To.TheVariants as outputs
use Rattle.cc_tell.proofs.Calls.{called_gives}
use Rattle.cc_tell.proofs.GivenSteps.{stop_is_whole, stop_is_cut}
use Rattle.cc_tell.proofs.refusing.tell_stop.Goals as goal

pub returns-in-Ok : goal.returns-in-Ok
returns-in-Ok g c =
    stop_is_whole c.args.stop c.as_bytes.result.now _ _ c.whole_status.result (c.as_bytes.ensures.value ∙ c.line_of.ensures) c.in-Ok.ensures.all c.whole_status.ensures
    c.give_all.ensures.begun c.give_all.ensures.reads_count c.give_all.ensures.writes_count (called_gives outputs.Err _ _ c.give_all.ensures.calls)

pub returns-in-Err : goal.returns-in-Err
returns-in-Err g c =
    let some = c.in-Err.ensures.some in
    stop_is_cut c.args.stop some.0 c.as_bytes.result.now _ _ c.cut_status.result (c.as_bytes.ensures.value ∙ c.line_of.ensures) some.1 some.2 c.cut_status.ensures c.in-Err.ensures.failed
    c.give_all.ensures.begun c.give_all.ensures.reads_count c.give_all.ensures.writes_count (called_gives outputs.Err _ _ c.give_all.ensures.calls)
