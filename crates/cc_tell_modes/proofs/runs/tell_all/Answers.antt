use Rattle.std.proofs.Common.{Ok, ap, ◌∙◌}
use Rattle.cc_tell_modes.proofs.RunsTelling.{telling_begins, telling_cut, telling_ends, telling_next, telling_stops}
use Rattle.cc_tell_modes.proofs.runs.tell_all.Goals as goal

pub loop-event-init : goal.loop-event-init
loop-event-init g c = telling_begins c.args.engine c.args.voice _ c.requires.more c.requires.about c.requires.fits

pub returns-in-Err : goal.returns-in-Err
returns-in-Err g c =
    telling_stops c.args.engine c.args.voice c.loop-event.engine c.loop-event.voice (g.D.Desk.seen c.args.desk.now) (g.D.Desk.seen c.loop-event.desk) (g.D.Desk.seen c.stop_for.new.desk)
    c.loop-event.invariant g.met.E.Turns.fair g.E.Turns.Limit g.V.Voice.status c.in-Err.fault c.stop_for.result c.in-Err.ensures.refused c.stop_for.ensures

pub returns-in_err-status-in-Ok : goal.returns-in_err-status-in-Ok
returns-in_err-status-in-Ok g c = λ of run words state given is at speaks gives.
    telling_cut c.args.engine c.args.voice c.loop-event.engine c.loop-event.voice (g.D.Desk.seen c.args.desk.now) (g.D.Desk.seen c.loop-event.desk) (g.D.Desk.seen c.tell.new.desk)
    c.loop-event.invariant g.met.E.Turns.fair c.in-Ok.event c.next.new.self g.E.Turns.left c.in-Ok.ensures.tells c.next.ensures.same g.V.Voice.status c.tell.result c.tell.ensures.ends
    c.tell.ensures.tells of run words state given is at speaks gives g.E.Turns.Limit c.in_err-status-in-Ok.field-0.0 c.from_residual.result c.in_err-status-in-Ok.was c.from_residual.ensures.1

pub returns-in-Some : goal.returns-in-Some
returns-in-Some g c = λ of run words state given is at speaks gives.
    telling_ends c.args.engine c.args.voice c.loop-event.engine c.loop-event.voice (g.D.Desk.seen c.args.desk.now) (g.D.Desk.seen c.loop-event.desk) (g.D.Desk.seen c.tell.new.desk)
    c.loop-event.invariant g.met.E.Turns.fair c.in-Ok.event c.next.new.self g.E.Turns.left c.in-Ok.ensures.tells c.next.ensures.same g.V.Voice.status c.tell.result c.tell.ensures.ends
    c.tell.ensures.tells of run words state given is at speaks gives g.E.Turns.Limit c.in-Some.status (c.in_ok-status-in-Ok.was ∙ ap Ok c.in-Some.is)

pub loop-event-preserved : goal.loop-event-preserved
loop-event-preserved g c =
    telling_next c.args.engine c.args.voice c.loop-event.engine c.loop-event.voice (g.D.Desk.seen c.args.desk.now) (g.D.Desk.seen c.loop-event.desk) (g.D.Desk.seen c.tell.new.desk)
    c.loop-event.invariant g.met.E.Turns.fair c.in-Ok.event c.next.new.self g.E.Turns.left c.in-Ok.ensures.tells c.next.ensures.same g.V.Voice.status c.tell.result c.tell.ensures.ends
    c.tell.ensures.tells c.tell.new.self (c.in_ok-status-in-Ok.was ∙ ap Ok c.in_default.is) c.tell.ensures.moves c.tell.ensures.keeps c.next.ensures.fits g.E.Turns.last c.in-Ok.ensures.goes
    c.requires.ends
