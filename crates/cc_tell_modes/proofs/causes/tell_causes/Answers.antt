use Rattle.cc_tell_modes.proofs.CauseLines.{all_told, line_stopped, line_told, none_told}
use Rattle.cc_tell_modes.proofs.causes.tell_causes.Goals as goal

pub loop-position-init : goal.loop-position-init
loop-position-init g c = λ d horizon of laws same. none_told d c.args.files.now horizon c.args.row.now _

pub loop-position-preserved : goal.loop-position-preserved
loop-position-preserved g c = λ d horizon of laws same.
    line_told d c.args.files.now horizon c.args.row.now c.args.causes.now c.loop-position.position _ _ _ _ c.tell_cause.result c.in_ok-tell_cause.field-0 same
    c.loop-position-test.true (c.loop-position.invariant d horizon of laws same) (c.tell_cause.ensures d of laws) c.in_ok-tell_cause.was

pub returns-in_err-tell_cause : goal.returns-in_err-tell_cause
returns-in_err-tell_cause g c = λ d horizon of laws same.
    line_stopped d c.args.files.now horizon c.args.row.now c.args.causes.now c.loop-position.position _ _ _ _ c.tell_cause.result c.in_err-tell_cause.field-0.0
    c.from_residual.result same c.loop-position-test.true (c.loop-position.invariant d horizon of laws same) (c.tell_cause.ensures d of laws) c.in_err-tell_cause.was c.from_residual.ensures.1

pub returns : goal.returns
returns g c = λ d horizon of laws same.
    all_told d c.args.files.now horizon c.args.row.now c.loop-position.position _ _ _ c.loop-position-test.false (c.loop-position.invariant d horizon of laws same)
