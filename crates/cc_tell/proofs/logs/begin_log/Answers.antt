use Rattle.cc_tell.proofs.LogsBegun.{begins_done, begins_failed}
use Rattle.cc_tell.proofs.logs.begin_log.Goals as goal

pub returns-in-Ok : goal.returns-in-Ok
returns-in-Ok g c =
    let begun = c.in-Ok.ensures in
    begins_done c.args.name c.in-Some.name _ _ tt c.in-Some.is begun.after begun.begun begun.calls begun.calm begun.reads_count begun.writes_count

pub returns-in-Err : goal.returns-in-Err
returns-in-Err g c =
    let left = c.in-Err.ensures in
    begins_failed c.args.name c.in-Some.name _ _ c.in-Some.is left.after left.begun left.calls left.cause left.reads_count left.writes_count
