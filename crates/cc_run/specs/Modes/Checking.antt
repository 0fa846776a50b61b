-- Check mode: a log of a query is judged.
use Rattle.std.specs.Prelude.{List, ℕ}
use Rattle.cc_defs.specs.declared.log.LogVerdict.{LogVerdict}
use Rattle.cc_defs.specs.declared.log.LogVerdict.TheVariants as verdicts
use Rattle.cc_defs.specs.declared.refusal.Fault.TheVariants as faults
use Rattle.cc_defs.specs.Logs.{IsVerdict}
use Rattle.cc_describe.specs.declared.heads.Heads.TheVariants as heads
use Rattle.cc_describe.specs.Describing.{AreToOpen}
use Rattle.cc_describe.specs.Places.{Files}
use Rattle.cc_judge.specs.Judging.{BlocksHistories, IsJudgeFault, IsVerdictWithin}
use Rattle.cc_list.specs.Promises.{Promise}
use Rattle.cc_list.specs.Tasks.{IsTask, RefusesNamed, Task}
use Rattle.cc_print.specs.Verdicts.{verdict_line}
use Rattle.cc_lists.specs.Subjects.{subject_of}
use Rattle.cc_run.specs.Judging.{Judging, NamesLog, judging_promise}
use Rattle.cc_run.specs.Naming.{named_in}
use Rattle.cc_tell.specs.declared.status.Status.{Status}
use Rattle.cc_tell.specs.declared.status.Status.TheVariants as statuses
use Rattle.cc_words.specs.Requests.{Checking}

abbrev pub verdict_status : LogVerdict → Status
verdict_status (verdicts.Accepted first last blocked) = statuses.Right
verdict_status (verdicts.Refused line reason) = statuses.Not

-- The verdict on a log. Where it is accepted, each history of its horizons is blocked in it.
pub record IsVerdictOn (task : Task) (bytes : List ℕ) (verdict : LogVerdict) : Type 0 where
  pub judged : IsVerdict (subject_of task.description task.query task.ask.after) bytes verdict
  pub within : IsVerdictWithin task.description task.query task.ask.after bytes verdict
  pub blocks : BlocksHistories task.description task.query task.ask.after bytes verdict

abbrev pub query_judging : Judging Task LogVerdict
query_judging = record {
  Is = IsVerdictOn;
  Passes = λ task bytes refusal. IsJudgeFault task.description task.query task.ask.after bytes (faults.Refused refusal);
  line = verdict_line;
  status = verdict_status;
}

-- what a log is to be one of
abbrev pub NamesTask : Checking → Files → Task → Type 0
NamesTask checking files = IsTask files (named_in checking)

-- the log that words name
abbrev pub NamesLogOf : Files → Checking → Task → List ℕ → Type 0
NamesLogOf files checking = NamesLog (NamesTask checking) checking.log files

abbrev pub checking_promise : Checking → Promise
checking_promise checking =
    judging_promise query_judging (λ files. RefusesNamed files (named_in checking)) (NamesTask checking) (λ files. AreToOpen heads.Definite files checking.file) checking.log
