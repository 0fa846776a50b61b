use Rattle.cc_tell_modes.specs.ForeverTexts.{none_line}
use Rattle.cc_tell_modes.proofs.SureLines.{log_cut, log_then}
use Rattle.cc_tell_modes.proofs.forever.tell_passed.Goals as goal

pub returns-in_err-tell_section : goal.returns-in_err-tell_section
returns-in_err-tell_section g c =
    log_cut (none_line c.args.claim c.args.horizon) _ _ _ c.tell_section.result c.in_err-tell_section.field-0.0 c.from_residual.result c.tell_section.ensures
    c.in_err-tell_section.was c.from_residual.ensures.1

pub returns : goal.returns
returns g c =
    log_then (none_line c.args.claim c.args.horizon) _ _ _ _ c.tell_section.result c.in_ok-tell_section.field-0 c.tell_none.result c.tell_section.ensures
    c.in_ok-tell_section.was c.tell_none.ensures
