use Rattle.cc_ports.specs.declared.desk.To.TheVariants as outputs
use Rattle.cc_tell.proofs.GivenSteps.{cut_one, then_one}
use Rattle.cc_tell_modes.proofs.forever.tell_section.Goals as goal

pub returns-in_err-give_made : goal.returns-in_err-give_made
returns-in_err-give_made g c =
    cut_one outputs.Log _ _ _ _ c.give_made.result c.in_err-give_made.field-0.0 c.from_residual.result (c.give_made.ensures _ c.heading_line.ensures) c.in_err-give_made.was c.from_residual.ensures.1

pub returns : goal.returns
returns g c =
    then_one outputs.Log _ _ _ _ _ c.give_made.result c.in_ok-give_made.field-0 c.tell_lines.result (c.give_made.ensures _ c.heading_line.ensures) c.in_ok-give_made.was c.tell_lines.ensures
