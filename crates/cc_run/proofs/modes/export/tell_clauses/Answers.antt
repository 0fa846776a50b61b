use Rattle.std.proofs.Common.{◌∙◌, refl}
use Rattle.cc_ports.specs.declared.desk.To.TheVariants as outputs
use Rattle.cc_tell.proofs.LineSteps.{lines_begin, lines_more, lines_stop}
use Rattle.cc_run.proofs.Exported.{all_given, line_is, lines_lack}
use Rattle.cc_run.proofs.modes.export.tell_clauses.Goals as goal

pub loop-index-init : goal.loop-index-init
loop-index-init g c = lines_begin outputs.Out _ _ _ refl

pub loop-index-preserved : goal.loop-index-preserved
loop-index-preserved g c =
    lines_more outputs.Out _ _ _ _ c.loop-index.invariant c.as_bytes.result.now _
    (line_is c.args.form.now.clauses c.loop-index.index c.clause.result.now c.as_bytes.result.now c.clause.ensures.numbered.1
    (c.as_bytes.ensures.value ∙ c.text.ensures ∙ c.in_ok-line.ensures))
    _ c.give.result c.in_ok-give.field-0 c.give.ensures c.in_ok-give.was

pub returns-in_err-line : goal.returns-in_err-line
returns-in_err-line g c = lines_lack _ _ _ _ c.from_residual.result c.loop-index.invariant c.from_residual.ensures.1

pub returns-in_err-give : goal.returns-in_err-give
returns-in_err-give g c =
    lines_stop outputs.Out _ _ _ _ c.loop-index.invariant c.as_bytes.result.now _
    (line_is c.args.form.now.clauses c.loop-index.index c.clause.result.now c.as_bytes.result.now c.clause.ensures.numbered.1
    (c.as_bytes.ensures.value ∙ c.text.ensures ∙ c.in_ok-line.ensures))
    _ c.give.result c.in_err-give.field-0.0 c.from_residual-in_err-give.result c.give.ensures c.in_err-give.was c.from_residual-in_err-give.ensures.1

pub returns : goal.returns
returns g c = all_given c.args.form.now.clauses c.count-index-end.result c.loop-index.index _ _ _ c.count-index-end.ensures.value c.loop-index-test.false c.loop-index.invariant
