use Rattle.cc_tell_modes.proofs.SureLines.{all_logged, line_formed, line_logged, line_stopped, none_logged}
use Rattle.cc_tell_modes.proofs.certain.tell_lines.Goals as goal

pub loop-i-init : goal.loop-i-init
loop-i-init g c = none_logged c.args.lines.now _

pub tell_line-requires : goal.tell_line-requires
tell_line-requires g c = line_formed c.args.lines.now c.loop-i.i c.index-lines-i.result c.index-lines-i.is c.requires.formed c.loop-i-test.true

pub loop-i-preserved : goal.loop-i-preserved
loop-i-preserved g c =
    line_logged c.args.lines.now c.loop-i.i c.index-lines-i.result _ _ _ c.tell_line.result c.in_ok-tell_line.field-0 c.index-lines-i.is c.loop-i-test.true
    c.loop-i.invariant c.tell_line.ensures c.in_ok-tell_line.was

pub returns-in_err-tell_line : goal.returns-in_err-tell_line
returns-in_err-tell_line g c =
    line_stopped c.args.lines.now c.loop-i.i c.index-lines-i.result _ _ _ c.tell_line.result c.in_err-tell_line.field-0.0 c.from_residual.result c.index-lines-i.is
    c.loop-i-test.true c.loop-i.invariant c.tell_line.ensures c.in_err-tell_line.was c.from_residual.ensures.1

pub returns : goal.returns
returns g c = all_logged c.args.lines.now c.loop-i.i _ _ _ c.loop-i-test.false c.loop-i.invariant
