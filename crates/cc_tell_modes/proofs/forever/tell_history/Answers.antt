use Rattle.std.proofs.Common.{◌++◌}
use Rattle.cc_ports.specs.declared.desk.To.TheVariants as outputs
use Rattle.cc_tell.proofs.GivenSteps.{cut_one, then_one}
use Rattle.cc_tell_modes.specs.ForeverTexts.{found_line, met_line, row_lines}
use Rattle.cc_tell_modes.proofs.forever.tell_history.Goals as goal

pub returns-in_err-tell_row : goal.returns-in_err-tell_row
returns-in_err-tell_row g c = λ d is.
    cut_one outputs.Out (found_line c.args.claim c.args.horizon ++ row_lines d c.args.horizon c.args.row.now) (met_line c.args.claim) _ _
    c.tell_row.result c.in_err-tell_row.field-0.0 c.from_residual-in_err-tell_row.result
    (then_one outputs.Out (found_line c.args.claim c.args.horizon) (row_lines d c.args.horizon c.args.row.now) _ _ _ c.tell_found.result c.in_ok-tell_found.field-0 c.tell_row.result
    c.tell_found.ensures c.in_ok-tell_found.was (c.tell_row.ensures d is)) c.in_err-tell_row.was c.from_residual-in_err-tell_row.ensures.1

pub returns : goal.returns
returns g c = λ d is.
    then_one outputs.Out (found_line c.args.claim c.args.horizon ++ row_lines d c.args.horizon c.args.row.now) (met_line c.args.claim) _ _ _
    c.tell_row.result c.in_ok-tell_row.field-0 c.tell_met.result
    (then_one outputs.Out (found_line c.args.claim c.args.horizon) (row_lines d c.args.horizon c.args.row.now) _ _ _ c.tell_found.result c.in_ok-tell_found.field-0 c.tell_row.result
    c.tell_found.ensures c.in_ok-tell_found.was (c.tell_row.ensures d is)) c.in_ok-tell_row.was c.tell_met.ensures
