use Rattle.cc_ports.specs.declared.desk.To.TheVariants as outputs
use Rattle.cc_print.specs.Verdicts.{verdict_line}
use Rattle.cc_run.specs.Converted.{other_said}
use Rattle.cc_tell.specs.Givens.{given_to, only_out}
use Rattle.cc_tell.proofs.GivenSteps.{step_again, step_as, step_cut, step_done, step_then}
use Rattle.cc_run.proofs.Converted.{converted_joined}
use Rattle.cc_run.proofs.modes.convert.give_accepted.Goals as goal

pub returns-in_err-status-clause-told : goal.returns-in_err-status-clause-told
returns-in_err-status-clause-told g c = λ d q of says.
    let other = other_said d q c.args.prepared.now.key c.args.bytes.now says in
    step_as _ _ _ _ c.from_residual.result (converted_joined c.args.verdict.now other)
    (step_cut (only_out (verdict_line c.args.verdict.now)) (given_to outputs.Log other) _ _ c.tell_verdict.result c.in_err-status.field-0.0 c.from_residual.result
    c.tell_verdict.ensures.told c.in_err-status.was c.from_residual.ensures.1)

pub returns-in_err-give_other-clause-told : goal.returns-in_err-give_other-clause-told
returns-in_err-give_other-clause-told g c = λ d q of says.
    let other = other_said d q c.args.prepared.now.key c.args.bytes.now says in
    step_as _ _ _ _ c.from_residual-in_err-give_other.result (converted_joined c.args.verdict.now other)
    (step_then (only_out (verdict_line c.args.verdict.now)) (given_to outputs.Log other) _ _ _ c.tell_verdict.result c.in_ok-status.status c.from_residual-in_err-give_other.result
    c.tell_verdict.ensures.told c.in_ok-status.was
    (step_again _ _ _ c.give_other.result c.in_err-give_other.field-0.0 c.from_residual-in_err-give_other.result (c.give_other.ensures d q of says)
    c.in_err-give_other.was c.from_residual-in_err-give_other.ensures.1))

pub returns-clause-told : goal.returns-clause-told
returns-clause-told g c = λ d q of says.
    let other = other_said d q c.args.prepared.now.key c.args.bytes.now says in
    step_as _ _ _ _ _ (converted_joined c.args.verdict.now other)
    (step_then (only_out (verdict_line c.args.verdict.now)) (given_to outputs.Log other) _ _ _ c.tell_verdict.result c.in_ok-status.status _
    c.tell_verdict.ensures.told c.in_ok-status.was
    (step_done _ _ _ c.give_other.result c.in_ok-give_other.field-0 c.in_ok-status.status (c.give_other.ensures d q of says) c.in_ok-give_other.was))
