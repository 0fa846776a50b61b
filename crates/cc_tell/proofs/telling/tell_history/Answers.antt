use Rattle.std.proofs.Common.{◌++◌}
use Rattle.cc_defs.specs.Events.{event_text}
use Rattle.cc_defs.specs.Texts as texts
use Rattle.cc_ports.specs.declared.desk.To.TheVariants as outputs
use Rattle.cc_tell.proofs.GivenSteps.{cut_one, then_one}
use Rattle.cc_tell.proofs.telling.tell_history.Goals as goal

pub returns-in_err-tell_event : goal.returns-in_err-tell_event
returns-in_err-tell_event g c = λ d is.
    cut_one outputs.Out (event_text c.args.event.now) (texts.history_text d c.args.horizon c.args.row.now ++ texts.key_line c.args.horizon c.args.row.now) _ _
    c.tell_event.result c.in_err-tell_event.field-0.0 c.from_residual.result c.tell_event.ensures c.in_err-tell_event.was c.from_residual.ensures.1

pub returns : goal.returns
returns g c = λ d is.
    then_one outputs.Out (event_text c.args.event.now) (texts.history_text d c.args.horizon c.args.row.now ++ texts.key_line c.args.horizon c.args.row.now) _ _ _
    c.tell_event.result c.in_ok-tell_event.field-0 c.tell_row.result c.tell_event.ensures c.in_ok-tell_event.was (c.tell_row.ensures d is)
