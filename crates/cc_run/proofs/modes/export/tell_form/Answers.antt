use Rattle.std.proofs.Common.{◌∙◌, flat_map, length}
use Rattle.cc_dimacs.specs.CnfTexts.{clause_line, heading_text}
use Rattle.cc_ports.specs.declared.desk.To.TheVariants as outputs
use Rattle.cc_tell.specs.declared.status.Status.TheVariants as statuses
use Rattle.cc_tell.specs.Givens.{given_to}
use Rattle.cc_tell.proofs.GivenSteps.{cut_one, one_as, step_again, step_done, step_nothing, then_one}
use Rattle.cc_run.proofs.modes.export.tell_form.Goals as goal

pub returns-in_err-heading-clause-told : goal.returns-in_err-heading-clause-told
returns-in_err-heading-clause-told g c = step_nothing _ _ c.from_residual.result c.from_residual.ensures.1

pub returns-in_err-give_lines-clause-told : goal.returns-in_err-give_lines-clause-told
returns-in_err-give_lines-clause-told g c =
    let form = c.args.form.now in
    cut_one outputs.Out (heading_text c.args.horizon form.variables (length form.clauses)) (flat_map clause_line form.clauses) _ _ c.give_lines.result
    c.in_err-give_lines.field-0.0 c.from_residual-in_err-give_lines.result (one_as outputs.Out _ _ _ _ c.give_lines.result (c.text.ensures ∙ c.in_ok-heading.ensures) c.give_lines.ensures)
    c.in_err-give_lines.was c.from_residual-in_err-give_lines.ensures.1

pub returns-in_err-tell_clauses-clause-told : goal.returns-in_err-tell_clauses-clause-told
returns-in_err-tell_clauses-clause-told g c =
    let form = c.args.form.now in
    then_one outputs.Out (heading_text c.args.horizon form.variables (length form.clauses)) (flat_map clause_line form.clauses) _ _ _ c.give_lines.result c.in_ok-give_lines.field-0
    c.from_residual-in_err-tell_clauses.result (one_as outputs.Out _ _ _ _ c.give_lines.result (c.text.ensures ∙ c.in_ok-heading.ensures) c.give_lines.ensures) c.in_ok-give_lines.was
    (step_again (given_to outputs.Out (flat_map clause_line form.clauses)) _ _ c.tell_clauses.result c.in_err-tell_clauses.field-0.0 c.from_residual-in_err-tell_clauses.result
    c.tell_clauses.ensures c.in_err-tell_clauses.was c.from_residual-in_err-tell_clauses.ensures.1)

pub returns-clause-told : goal.returns-clause-told
returns-clause-told g c =
    let form = c.args.form.now in
    then_one outputs.Out (heading_text c.args.horizon form.variables (length form.clauses)) (flat_map clause_line form.clauses) _ _ _ c.give_lines.result c.in_ok-give_lines.field-0
    _ (one_as outputs.Out _ _ _ _ c.give_lines.result (c.text.ensures ∙ c.in_ok-heading.ensures) c.give_lines.ensures) c.in_ok-give_lines.was
    (step_done (given_to outputs.Out (flat_map clause_line form.clauses)) _ _ c.tell_clauses.result c.in_ok-tell_clauses.field-0 statuses.Right c.tell_clauses.ensures
    c.in_ok-tell_clauses.was)
