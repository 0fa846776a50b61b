use Rattle.cc_ports.specs.declared.desk.To.TheVariants as outputs
use Rattle.cc_tell.proofs.GivenSteps.{step_again, cut_one, then_one, step_done}
use Rattle.cc_tell.proofs.refusing.refuse.Goals as goal

pub returns-in_err-tell_refusal-clause-told : goal.returns-in_err-tell_refusal-clause-told
returns-in_err-tell_refusal-clause-told g c =
    cut_one outputs.Err _ _ _ _ c.tell_refusal.result c.in_err-tell_refusal.field-0.0 c.from_residual.result c.tell_refusal.ensures c.in_err-tell_refusal.was c.from_residual.ensures.1

pub returns-in_err-tell_usage-clause-told : goal.returns-in_err-tell_usage-clause-told
returns-in_err-tell_usage-clause-told g c =
    then_one outputs.Err _ _ _ _ _ c.tell_refusal.result c.in_ok-tell_refusal.field-0 _ c.tell_refusal.ensures c.in_ok-tell_refusal.was
    (step_again _ _ _ c.tell_usage.result c.in_err-tell_usage.field-0.0 c.from_residual-in_err-tell_usage.result c.tell_usage.ensures c.in_err-tell_usage.was c.from_residual-in_err-tell_usage.ensures.1)

pub returns-clause-told : goal.returns-clause-told
returns-clause-told g c =
    then_one outputs.Err _ _ _ _ _ c.tell_refusal.result c.in_ok-tell_refusal.field-0 _ c.tell_refusal.ensures c.in_ok-tell_refusal.was
    (step_done _ _ _ c.tell_usage.result c.in_ok-tell_usage.field-0 _ c.tell_usage.ensures c.in_ok-tell_usage.was)
