use Rattle.cc_ports.specs.declared.desk.To.TheVariants as outputs
use Rattle.cc_tell.proofs.GivenSteps.{cut_one, one_as, then_one}
use Rattle.cc_tell_modes.proofs.models.give_heading.Goals as goal

pub returns-in_err-give : goal.returns-in_err-give
returns-in_err-give g c =
    cut_one outputs.Log _ _ _ _ c.give.result c.in_err-give.field-0.0 c.from_residual.result (one_as outputs.Log _ _ _ _ c.give.result c.header_of.ensures c.give.ensures) c.in_err-give.was
    c.from_residual.ensures.1

pub returns : goal.returns
returns g c =
    then_one outputs.Log _ _ _ _ _ c.give.result c.in_ok-give.field-0 c.tell_line_in.result (one_as outputs.Log _ _ _ _ c.give.result c.header_of.ensures c.give.ensures) c.in_ok-give.was
    c.tell_line_in.ensures
