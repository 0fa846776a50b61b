use Rattle.std.proofs.Common.{◌∙◌, append-nil, sym}
use Rattle.cc_defs.specs.Events.{event_text}
use Rattle.cc_ports.specs.declared.desk.To.TheVariants as outputs
use Rattle.cc_tell.proofs.GivenSteps.{one_as}
use Rattle.cc_tell_modes.proofs.generally.tell_alone.Goals as goal

pub returns : goal.returns
returns g c = λ d. one_as outputs.Out _ _ _ _ c.tell_event.result (sym (append-nil _ ∙ append-nil (event_text c.args.event.now))) c.tell_event.ensures
