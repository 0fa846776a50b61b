-- What is printed for a run and the log that it leaves say which run it was; and what the log of a search rests on.
use Rattle.std.specs.Prelude.{◌≡◌}
use Rattle.std.specs.List.{AllByRecursion}
use Rattle.cc_defs.specs.Events.{log_of, out_text}
use Rattle.cc_defs.specs.LogTexts.{IsFormed}
use Rattle.cc_defs.specs.Runs.{IsFairRun, Run}
use Rattle.cc_log.specs.Laws.{WrittenLinesAreEntries}
use Rattle.cc_log.specs.Versions.{AcceptedLogsAreSayable, OtherVersionsAreJudgedAlike}
use Rattle.cc_lists.specs.Subjects.{lines_of}
use Rattle.cc_query.specs.Accepted.{WrittenLogsAreAccepted}
use Rattle.cc_list.specs.Searching.{told_by}
use Rattle.cc_list.specs.Tasks.{Task}

-- a fair run of a task, whose lines can be written
pub record IsWrittenRun (task : Task) (run : Run) : Type 0 where
  pub fair : IsFairRun task.description task.query task.ask run
  pub formed : AllByRecursion IsFormed (lines_of (told_by task run))

-- Two runs of one task that print the same text and leave the same log are one run.
abbrev pub TextsTellOneRun : Type 0
TextsTellOneRun = (task : Task) (one other : Run) → IsWrittenRun task one → IsWrittenRun task other →
    out_text task.description (told_by task one) ≡ out_text task.description (told_by task other) →
    log_of (told_by task one) ≡ log_of (told_by task other) → one ≡ other

-- A log of version 1 is accepted, and what is written in version 2 says the same.
pub record LogLaws : Type 0 where
  pub accepted : WrittenLogsAreAccepted
  pub entries : WrittenLinesAreEntries
  pub sayable : AcceptedLogsAreSayable
  pub alike : OtherVersionsAreJudgedAlike
