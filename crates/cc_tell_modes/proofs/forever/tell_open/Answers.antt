use Rattle.std.proofs.Common.{[], ◌∷◌, ◌++◌, append_assoc, codes, sym}
use Rattle.cc_ports.specs.declared.desk.To.TheVariants as outputs
use Rattle.cc_tell.proofs.GivenSteps.{cut_one, one_as, then_one}
use Rattle.cc_tell_modes.specs.ForeverTexts.{of_steps, row_lines}
use Rattle.cc_tell_modes.proofs.forever.tell_open.Goals as goal

pub returns-in_err-give_made : goal.returns-in_err-give_made
returns-in_err-give_made g c = λ d is.
    let said = of_steps c.args.steps (codes "example") in
    let row = row_lines d c.args.steps c.args.example.now in
    let end = codes "not settled" ++ 10 ∷ [] in
    one_as outputs.Out (said ++ (row ++ end)) _ _ _ c.from_residual.result (sym (append_assoc said row end))
    (cut_one outputs.Out said (row ++ end) _ _ c.give_made.result c.in_err-give_made.field-0.0 c.from_residual.result (c.give_made.ensures _ c.steps_line.ensures) c.in_err-give_made.was
    c.from_residual.ensures.1)

pub returns-in_err-tell_row : goal.returns-in_err-tell_row
returns-in_err-tell_row g c = λ d is.
    cut_one outputs.Out (of_steps c.args.steps (codes "example") ++ row_lines d c.args.steps c.args.example.now) (codes "not settled" ++ 10 ∷ []) _ _
    c.tell_row.result c.in_err-tell_row.field-0.0 c.from_residual-in_err-tell_row.result
    (then_one outputs.Out (of_steps c.args.steps (codes "example")) (row_lines d c.args.steps c.args.example.now) _ _ _ c.give_made.result c.in_ok-give_made.field-0 c.tell_row.result
    (c.give_made.ensures _ c.steps_line.ensures) c.in_ok-give_made.was (c.tell_row.ensures d is)) c.in_err-tell_row.was c.from_residual-in_err-tell_row.ensures.1

pub returns : goal.returns
returns g c = λ d is.
    then_one outputs.Out (of_steps c.args.steps (codes "example") ++ row_lines d c.args.steps c.args.example.now) (codes "not settled" ++ 10 ∷ []) _ _ _
    c.tell_row.result c.in_ok-tell_row.field-0 c.give.result
    (then_one outputs.Out (of_steps c.args.steps (codes "example")) (row_lines d c.args.steps c.args.example.now) _ _ _ c.give_made.result c.in_ok-give_made.field-0 c.tell_row.result
    (c.give_made.ensures _ c.steps_line.ensures) c.in_ok-give_made.was (c.tell_row.ensures d is)) c.in_ok-tell_row.was c.give.ensures
