use Rattle.cc_defs.specs.Texts as texts
use Rattle.cc_ports.specs.declared.desk.To.TheVariants as outputs
use Rattle.cc_tell.proofs.GivenSteps.{cut_one, then_one}
use Rattle.cc_tell.proofs.telling.tell_row.Goals as goal

pub returns-in_err-give_made_lines : goal.returns-in_err-give_made_lines
returns-in_err-give_made_lines g c = λ d is.
    cut_one outputs.Out (texts.history_text d c.args.horizon c.args.row.now) (texts.key_line c.args.horizon c.args.row.now) _ _
    c.give_made_lines.result c.in_err-give_made_lines.field-0.0 c.from_residual.result
    (c.give_made_lines.ensures _ (c.history_text-history.ensures d is.declarations is.table_is is.signature_is is.universe is.objects)) c.in_err-give_made_lines.was c.from_residual.ensures.1

pub returns : goal.returns
returns g c = λ d is.
    then_one outputs.Out (texts.history_text d c.args.horizon c.args.row.now) (texts.key_line c.args.horizon c.args.row.now) _ _ _
    c.give_made_lines.result c.in_ok-give_made_lines.field-0 c.tell_key.result
    (c.give_made_lines.ensures _ (c.history_text-history.ensures d is.declarations is.table_is is.signature_is is.universe is.objects)) c.in_ok-give_made_lines.was c.tell_key.ensures
