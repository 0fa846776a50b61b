use Rattle.cc_ports.specs.declared.desk.To.TheVariants as outputs
use Rattle.cc_tell.proofs.GivenSteps.{cut_one, then_one}
use Rattle.cc_tell_modes.proofs.certain.tell_section.Goals as goal

pub returns-in_err-tell_heading : goal.returns-in_err-tell_heading
returns-in_err-tell_heading g c =
    cut_one outputs.Log _ _ _ _ c.tell_heading.result c.in_err-tell_heading.field-0.0 c.from_residual.result c.tell_heading.ensures c.in_err-tell_heading.was c.from_residual.ensures.1

pub returns : goal.returns
returns g c =
    then_one outputs.Log _ _ _ _ _ c.tell_heading.result c.in_ok-tell_heading.field-0 c.tell_lines.result c.tell_heading.ensures c.in_ok-tell_heading.was c.tell_lines.ensures
