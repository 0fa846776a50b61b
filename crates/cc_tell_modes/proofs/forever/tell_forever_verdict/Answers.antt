use Rattle.cc_tell.proofs.GivenSteps.{step_nothing}
use Rattle.cc_tell_modes.proofs.forever.tell_forever_verdict.Goals as goal

pub returns-in_err-text-clause-told : goal.returns-in_err-text-clause-told
returns-in_err-text-clause-told g c = step_nothing _ _ c.from_residual.result c.from_residual.ensures.1
