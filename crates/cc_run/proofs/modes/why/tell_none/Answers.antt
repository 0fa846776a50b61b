use Rattle.cc_tell.proofs.GivenSteps.{step_done}
use Rattle.cc_run.proofs.modes.why.tell_none.Goals as goal

pub returns-clause-told : goal.returns-clause-told
returns-clause-told g c = step_done _ _ _ c.give.result c.in_ok-give.field-0 _ c.give.ensures c.in_ok-give.was
