use Rattle.std.proofs.Common.{◌∙◌}
use Rattle.cc_ports.specs.declared.desk.To.TheVariants as outputs
use Rattle.cc_tell.proofs.GivenSteps.{one_as, step_done, step_nothing}
use Rattle.cc_run.proofs.modes.check.tell_verdict.Goals as goal

pub returns-in_err-text-clause-told : goal.returns-in_err-text-clause-told
returns-in_err-text-clause-told g c = step_nothing _ _ c.from_residual.result c.from_residual.ensures.1

pub returns-clause-told : goal.returns-clause-told
returns-clause-told g c = one_as outputs.Out _ _ _ _ _ (c.as_bytes.ensures.value ∙ c.text-2.ensures ∙ c.in_ok-text.ensures) (step_done _ _ _ c.give.result c.in_ok-give.field-0 _ c.give.ensures c.in_ok-give.was)
