use Rattle.cc_tell_modes.proofs.RunsTelling.{IsTelling}
use Rattle.cc_tell_modes.proofs.runs.tell_all.Given as goal

abbrev pub invariant-loop-event : goal.invariant-loop-event
invariant-loop-event g l =
    let engine = g.E.Turns in
    let voice = g.V.Voice in
    let desk = g.D.Desk in
    IsTelling engine.more engine.Is engine.Stands engine.Fair engine.Says engine.Fit voice.Speaks voice.text voice.after voice.can
    l.initial.engine l.initial.voice l.engine l.voice (desk.seen l.initial.desk) (desk.seen l.desk)

abbrev pub decreases-loop-event : goal.decreases-loop-event
decreases-loop-event g l = g.E.Turns.left l.engine
