-- Convert mode: a log is judged, and where it is accepted, written in its other version.
use Rattle.std.specs.Prelude.{◌≡◌, ◌≤◌, true, false, [], ◌∷◌, ◌++◌, ℕ, List, length, Option, Some, None}
use Rattle.cc_defs.specs.declared.log.LogVerdict.{LogVerdict}
use Rattle.cc_defs.specs.declared.log.LogVerdict.TheVariants as verdicts
use Rattle.cc_defs.specs.declared.log.Version.{Version}
use Rattle.cc_defs.specs.declared.refusal.LimitAt.TheVariants as limits
use Rattle.cc_defs.specs.Limits.{limit_number}
use Rattle.cc_defs.specs.LogVersions.{AreVersions, counts_in}
use Rattle.cc_defs.specs.Logs.{Subject, IsVerdict}
use Rattle.cc_describe.specs.declared.heads.Heads.TheVariants as heads
use Rattle.cc_describe.specs.Describing.{AreToOpen}
use Rattle.cc_describe.specs.Places.{Files}
use Rattle.cc_judge.specs.Judging.{BlocksHistories, IsVerdictWithin}
use Rattle.cc_print.specs.Verdicts.{verdict_line}
use Rattle.cc_lists.specs.Subjects.{subject_of}
use Rattle.cc_run.specs.Judging.{MayEndJudging}
use Rattle.cc_run.specs.Modes.Checking.{NamesLogOf, checking_promise, verdict_status}
use Rattle.cc_list.specs.Promises.{Promise}
use Rattle.cc_list.specs.Tasks.{Task}
use Rattle.cc_run.specs.Naming.{checked_by}
use Rattle.cc_list.specs.Wholes.{Whole}
use Rattle.cc_tell.specs.declared.status.Status.{Status}
use Rattle.cc_tell.specs.declared.status.Status.TheVariants as statuses
use Rattle.cc_tell.specs.Givens.{only_out}
use Rattle.cc_words.specs.Requests.{Converting}
use Rattle.cc_words.specs.Words.{Text}

abbrev pub task_subject : Task → Subject
task_subject task = subject_of task.description task.query task.ask.after

-- The same lines, in the other version: they are given to Log, and a checker accepts them with the same verdict.
pub record IsOtherVersion (subject : Subject) (bytes other : List ℕ) (verdict : LogVerdict) : Type 0 where
  pub version : Version
  pub versions : AreVersions (counts_in subject) version bytes other
  pub judged : IsVerdict subject other verdict

-- what is given behind a verdict: where the log is accepted, its other version in a log that is begun; else only the verdict
abbrev pub IsConverted : Subject → List ℕ → LogVerdict → Whole → Type 0
IsConverted subject bytes (verdicts.Accepted first last blocked) whole =
    (other : List ℕ) × IsOtherVersion subject bytes other (verdicts.Accepted first last blocked)
    × (whole.given ≡ record { out = verdict_line (verdicts.Accepted first last blocked); err = []; log = other }) × (whole.begun ≡ true)
IsConverted subject bytes (verdicts.Refused line reason) whole =
    (whole.given ≡ only_out (verdict_line (verdicts.Refused line reason))) × (whole.begun ≡ false)

-- What a checker says of the log is given to Out, as in check mode, and the other version of one that is accepted to Log. Where it is
-- accepted, each history of its horizons is blocked in it.
pub record Converts (converting : Converting) (files : Files) (whole : Whole) : Type 0 where
  pub task : Task
  pub bytes : List ℕ
  pub named : NamesLogOf files (checked_by converting) task bytes
  pub few : length bytes ≤ limit_number limits.LogBytes
  pub verdict : LogVerdict
  pub judged : IsVerdict (task_subject task) bytes verdict
  pub within : IsVerdictWithin task.description task.query task.ask.after bytes verdict
  pub blocks : BlocksHistories task.description task.query task.ask.after bytes verdict
  pub converted : IsConverted (task_subject task) bytes verdict whole
  pub ends : whole.ends ≡ Some (verdict_status verdict)

-- the log of the other version is begun only where there is one
abbrev pub begun_as : Converting → Status → Option Text
begun_as converting statuses.Not = None
begun_as converting status = Some converting.to

abbrev pub converting_promise : Converting → Promise
converting_promise converting = record {
  Refuses = (checking_promise (checked_by converting)).Refuses;
  Gives = Converts converting;
  Opens = λ files opened. (named : List Text) × AreToOpen heads.Definite files converting.file named × (opened ≡ named ++ converting.log ∷ []);
  begins = begun_as converting;
  MayEnd = MayEndJudging;
}
