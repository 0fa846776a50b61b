use Rattle.std.proofs.Common.{◌++◌}
use Rattle.cc_tell_modes.specs.GeneralTexts.{heading_for, lines_text}
use Rattle.cc_tell_modes.proofs.SureLines.{log_cut, log_then}
use Rattle.cc_tell_modes.proofs.generally.tell_spent.Goals as goal

pub returns-in_err-tell_section : goal.returns-in_err-tell_section
returns-in_err-tell_section g c = λ d.
    log_cut _ (heading_for c.args.horizon c.args.rivals_of.now ++ lines_text c.args.lines.now) _ _ c.tell_section.result c.in_err-tell_section.field-0.0
    c.from_residual.result (c.tell_section.ensures _ c.heading_text.ensures) c.in_err-tell_section.was c.from_residual.ensures.1

pub returns : goal.returns
returns g c = λ d.
    log_then _ (heading_for c.args.horizon c.args.rivals_of.now ++ lines_text c.args.lines.now) _ _ _ c.tell_section.result c.in_ok-tell_section.field-0 c.tell_alone.result
    (c.tell_section.ensures _ c.heading_text.ensures) c.in_ok-tell_section.was (c.tell_alone.ensures d)
