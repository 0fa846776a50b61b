use Rattle.cc_tell.proofs.GivenSteps.{step_nothing}
use Rattle.cc_tell_modes.proofs.causes.tell_cause.Goals as goal

pub returns-in_err-line : goal.returns-in_err-line
returns-in_err-line g c = λ d of laws. step_nothing _ _ c.from_residual.result c.from_residual.ensures.1
