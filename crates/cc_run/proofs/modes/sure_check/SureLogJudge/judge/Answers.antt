use Rattle.cc_check.specs.Silent.{IsSilentFault}
use Rattle.cc_run.proofs.LogsJudged.{log_fault_as}
use Rattle.cc_silent.specs.SureLogs.{sure_subject}
use Rattle.cc_run.proofs.modes.sure_check.SureLogJudge.judge.Goals as goal

pub returns-in_err-verdict-clause-refused : goal.returns-in_err-verdict-clause-refused
returns-in_err-verdict-clause-refused c = λ subject of.
    log_fault_as (IsSilentFault (sure_subject subject.0 subject.1) c.args.bytes.now) c.check_sure.result c.from_residual.result c.in_err-verdict.field-0.0 c.in_err-verdict.was
    c.from_residual.ensures.1 (c.check_sure.ensures.refused subject.0 subject.1 of.laws_are of.query_is)
