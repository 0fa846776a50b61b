use Rattle.cc_check.specs.Silent.{IsSilentFault}
use Rattle.cc_arena.specs.GroundViews.{plain_ground_query}
use Rattle.cc_run.proofs.LogsJudged.{log_fault_as}
use Rattle.cc_run.proofs.ProvingTold.{least_is}
use Rattle.cc_silent.specs.ForeverLogs.{forever_subject}
use Rattle.cc_run.proofs.modes.forever_check.ForeverLogJudge.judge.Goals as goal

pub returns-in_err-found-clause-refused : goal.returns-in_err-found-clause-refused
returns-in_err-found-clause-refused c = λ subject of.
    log_fault_as (IsSilentFault (forever_subject subject.0 subject.1) c.args.bytes.now) c.check_forever.result c.from_residual.result c.in_err-found.field-0.0 c.in_err-found.was
    c.from_residual.ensures.1 (c.check_forever.ensures.refused subject.0 subject.1 of.laws_are of.query_is)

pub returns-clause-verdict : goal.returns-clause-verdict
returns-clause-verdict c = λ subject of.
    let said = c.in_ok-found.ensures in
    record {
      least = least_is (plain_ground_query c.args.self.now.prepared.now.query) subject.0 subject.1 of.query_is;
      verdict = said.verdict subject.0 subject.1 of.laws_are of.query_is;
      within = said.within subject.0 subject.1 of.laws_are of.query_is;
      proves = said.proves subject.0 subject.1 of.laws_are of.query_is;
    }
