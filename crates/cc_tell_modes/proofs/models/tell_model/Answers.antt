use Rattle.cc_tell.proofs.GivenSteps.{step_again, step_done}
use Rattle.cc_tell_modes.proofs.models.tell_model.Goals as goal

pub returns-in_err-give_made-clause-told : goal.returns-in_err-give_made-clause-told
returns-in_err-give_made-clause-told g c =
    step_again _ _ _ c.give_made.result c.in_err-give_made.field-0.0 c.from_residual.result (c.give_made.ensures _ c.model_text.ensures) c.in_err-give_made.was c.from_residual.ensures.1

pub returns-clause-told : goal.returns-clause-told
returns-clause-told g c = step_done _ _ _ c.give_made.result c.in_ok-give_made.field-0 _ (c.give_made.ensures _ c.model_text.ensures) c.in_ok-give_made.was
