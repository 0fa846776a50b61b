use Rattle.std.proofs.Common.{◌++◌, codes}
use Rattle.cc_ports.specs.declared.desk.To.TheVariants as outputs
use Rattle.cc_tell.proofs.GivenSteps.{cut_one, then_one}
use Rattle.cc_tell_modes.specs.ForeverTexts.{of_steps, proved_line}
use Rattle.cc_tell_modes.proofs.SureLines.{log_cut, log_then}
use Rattle.cc_tell_modes.proofs.forever.tell_proved.Goals as goal

pub returns-in_err-tell_section : goal.returns-in_err-tell_section
returns-in_err-tell_section g c =
    log_cut (of_steps c.args.steps (codes "holds") ++ proved_line c.args.asked.claim c.args.asked.least) _ _ _ c.tell_section.result c.in_err-tell_section.field-0.0 c.from_residual.result
    c.tell_section.ensures c.in_err-tell_section.was c.from_residual.ensures.1

pub returns-in_err-give_made : goal.returns-in_err-give_made
returns-in_err-give_made g c =
    log_then (of_steps c.args.steps (codes "holds") ++ proved_line c.args.asked.claim c.args.asked.least) _ _ _ _ c.tell_section.result c.in_ok-tell_section.field-0 c.from_residual-in_err-give_made.result
    c.tell_section.ensures c.in_ok-tell_section.was
    (cut_one outputs.Out (of_steps c.args.steps (codes "holds")) (proved_line c.args.asked.claim c.args.asked.least) _ _ c.give_made.result c.in_err-give_made.field-0.0 c.from_residual-in_err-give_made.result
    (c.give_made.ensures _ c.steps_line.ensures) c.in_err-give_made.was c.from_residual-in_err-give_made.ensures.1)

pub returns : goal.returns
returns g c =
    log_then (of_steps c.args.steps (codes "holds") ++ proved_line c.args.asked.claim c.args.asked.least) _ _ _ _ c.tell_section.result c.in_ok-tell_section.field-0 c.give_made-2.result
    c.tell_section.ensures c.in_ok-tell_section.was
    (then_one outputs.Out (of_steps c.args.steps (codes "holds")) (proved_line c.args.asked.claim c.args.asked.least) _ _ _ c.give_made.result c.in_ok-give_made.field-0 c.give_made-2.result
    (c.give_made.ensures _ c.steps_line.ensures) c.in_ok-give_made.was (c.give_made-2.ensures _ c.proved_text.ensures))
