use Rattle.std.proofs.Common.{◌++◌, Some, append-nil, sym}
use Rattle.cc_ports.specs.declared.desk.To.TheVariants as outputs
use Rattle.cc_lists.proofs.Positions.{row_in}
use Rattle.cc_tell_modes.specs.GeneralTexts.{heading_for, lines_text}
use Rattle.cc_tell.proofs.GivenSteps.{one_as}
use Rattle.cc_tell_modes.proofs.SureLines.{log_cut, log_then}
use Rattle.cc_tell_modes.proofs.generally.tell_shown.Goals as goal

pub returns-in_err-tell_section : goal.returns-in_err-tell_section
returns-in_err-tell_section g c = λ d is.
    log_cut _ (heading_for c.args.horizon (Some c.args.row.now) ++ lines_text c.args.lines.now) _ _ c.tell_section.result c.in_err-tell_section.field-0.0
    c.from_residual.result (c.tell_section.ensures _ c.rivals_line.ensures) c.in_err-tell_section.was c.from_residual.ensures.1

pub tell_history-requires-clause-row : goal.tell_history-requires-clause-row
tell_history-requires-clause-row g c = λ d of. (row_in d c.args.sig.now of c.args.horizon c.args.row.now).0 c.requires.row

pub returns : goal.returns
returns g c = λ d is.
    log_then _ (heading_for c.args.horizon (Some c.args.row.now) ++ lines_text c.args.lines.now) _ _ _ c.tell_section.result c.in_ok-tell_section.field-0 c.tell_history.result
    (c.tell_section.ensures _ c.rivals_line.ensures) c.in_ok-tell_section.was (one_as outputs.Out _ _ _ _ c.tell_history.result (sym (append-nil _)) (c.tell_history.ensures d is))
