use Rattle.cc_check.specs.Silent.{IsSilentFault}
use Rattle.cc_silent.specs.GeneralLogs.{general_subject}
use Rattle.std.proofs.Common.{subst, sym}
use Rattle.cc_check.specs.declared.silent.SilentVerdict.{SilentVerdict}
use Rattle.cc_run.proofs.LogsJudged.{log_fault_as}
use Rattle.cc_run.specs.Modes.CheckingGeneral.{IsGeneralVerdictOn}
use Rattle.cc_run.proofs.modes.general_check.GeneralLogJudge.judge.Goals as goal

pub returns-in_err-verdict-clause-refused : goal.returns-in_err-verdict-clause-refused
returns-in_err-verdict-clause-refused c = λ subject of.
    log_fault_as (IsSilentFault (general_subject subject.0 subject.1) c.args.bytes.now) c.check_general.result c.from_residual.result c.in_err-verdict.field-0.0 c.in_err-verdict.was
    c.from_residual.ensures.1 (c.check_general.ensures.refused subject.0 subject.1 of.laws_are of.query_is)

pub returns-clause-verdict : goal.returns-clause-verdict
returns-clause-verdict c = λ subject of.
    let said = c.in_ok-verdict.ensures in
    subst (λ (verdict : SilentVerdict). IsGeneralVerdictOn subject c.args.bytes.now verdict) (sym c.from.ensures) (record {
      judged = said.verdict subject.0 subject.1 of.laws_are of.query_is;
      within = said.within subject.0 subject.1 of.laws_are of.query_is;
      proves = said.proves subject.0 subject.1 of.laws_are of.query_is;
    })
