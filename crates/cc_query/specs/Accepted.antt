-- The log of a search is accepted, as far as the search reported its horizons.
use Rattle.std.specs.Prelude.{◌≡◌, ℕ, ◌<◌, ◌⊎◌, length, Some, None}
use Rattle.std.specs.List.{AllByRecursion}
use Rattle.cc_defs.specs.declared.log.EndWord.TheVariants as words
use Rattle.cc_defs.specs.declared.log.LogLine.TheVariants as lines
use Rattle.cc_defs.specs.declared.log.LogVerdict.TheVariants as verdicts
use Rattle.cc_defs.specs.Description.{Description}
use Rattle.cc_defs.specs.Events.{log_of}
use Rattle.cc_defs.specs.LogTexts.{IsFormed}
use Rattle.cc_defs.specs.Logs.{IsVerdict}
use Rattle.cc_defs.specs.Resolved.{Query}
use Rattle.cc_defs.specs.Runs.{Ask, Run, Section, Histories, EndsWith, IsFairRun, events_of, first_horizon}
use Rattle.cc_lists.specs.Subjects.{HaveGoodAxioms, lines_of, subject_of}

-- Each horizon of the run was reported: nothing was told of another, or its listing is complete.
abbrev pub IsReported : Run → Type 0
IsReported run = ((run.next ≡ None) × (0 < length run.done)) ⊎ ((section : Section) × (run.next ≡ Some (Histories section)) × EndsWith words.Empty section)

-- a checker accepts the log of such a run
abbrev pub WrittenLogsAreAccepted : Type 0
WrittenLogsAreAccepted = (d : Description) (q : Query) (ask : Ask) (run : Run) → IsFairRun d q ask run → IsReported run →
    AllByRecursion IsFormed (lines_of (events_of (first_horizon q ask.after) run)) →
    HaveGoodAxioms d q ask.after (lines_of (events_of (first_horizon q ask.after) run)) →
    (last : ℕ) × (blocked : ℕ) × IsVerdict (subject_of d q ask.after) (log_of (events_of (first_horizon q ask.after) run)) (verdicts.Accepted (first_horizon q ask.after) last blocked)
