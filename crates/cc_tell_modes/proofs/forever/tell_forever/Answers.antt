use Rattle.cc_tell.proofs.GivenSteps.{step_again, step_done}
use Rattle.cc_tell_modes.proofs.forever.tell_forever.Goals as goal

pub returns-in_err-tell-clause-told : goal.returns-in_err-tell-clause-told
returns-in_err-tell-clause-told g c = λ d of.
    step_again _ _ _ c.tell.result c.in_err-tell.field-0.0 c.from_residual.result (c.tell.ensures d of) c.in_err-tell.was c.from_residual.ensures.1

pub returns-clause-told : goal.returns-clause-told
returns-clause-told g c = λ d of. step_done _ _ _ c.tell.result c.in_ok-tell.field-0 _ (c.tell.ensures d of) c.in_ok-tell.was
