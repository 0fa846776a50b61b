-- The log of a run that proves what it was asked for is accepted.
use Rattle.std.specs.Prelude.{◌≡◌, ℕ, ◌+◌, ◌≤◌, List, length, Some}
use Rattle.std.specs.List.{AllByRecursion}
use Rattle.cc_check.specs.Silent.{IsSilentVerdict}
use Rattle.cc_check.specs.declared.silent.SilentVerdict.TheVariants as verdicts
use Rattle.cc_defs.specs.Description.{Description}
use Rattle.cc_defs.specs.LogTexts.{IsFormed}
use Rattle.cc_defs.specs.Limits.{most_steps}
use Rattle.cc_defs.specs.Resolved.{Query}
use Rattle.cc_defs.specs.Runs.{Section, range_of}
use Rattle.cc_forever.specs.ForeverRuns.{ForeverRun, IsFairForever, Proved, bases}
use Rattle.cc_forever.specs.ForeverTold.{ForeverTold, FailsOver, FoundAt, HoldsOver, LeftOpen, NoneAt, SpentIn, forever_log, forever_told}
use Rattle.cc_lists.specs.Sections.{section_lines}
use Rattle.cc_lists.specs.Subjects.{AreGoodAxioms}
use Rattle.cc_silent.specs.ForeverLogs.{axioms_under, forever_subject}
use Rattle.cc_silent.specs.declared.forever.ForeverHeading.{ForeverHeading}
use Rattle.cc_silent.specs.declared.forever.ForeverHeading.TheVariants as headings

-- the lines of a section are formed, and it is one over clauses of its own variables
pub record IsWritableUnder (d : Description) (q : Query) (heading : ForeverHeading) (section : Section) : Type 0 where
  pub formed : AllByRecursion IsFormed (section_lines section)
  pub good : AreGoodAxioms (axioms_under d q heading)

abbrev pub IsWritable : Description → Query → ForeverTold → Type 0
IsWritable d q (NoneAt horizon section) = IsWritableUnder d q (headings.Horizon horizon) section
IsWritable d q (FailsOver steps) = Unit {0}
IsWritable d q (HoldsOver steps section) = IsWritableUnder d q (headings.Steps steps) section
IsWritable d q (FoundAt horizon row) = Unit {0}
IsWritable d q (LeftOpen steps row) = Unit {0}
IsWritable d q (SpentIn heading section) = IsWritableUnder d q heading section

abbrev pub AreWritable : Description → Query → List ForeverTold → Type 0
AreWritable d q told = AllByRecursion (IsWritable d q) told

-- A checker accepts the log of a run whose induction holds: a section for each horizon, and one for the step.
abbrev pub ForeverLogsAreAccepted : Type 0
ForeverLogsAreAccepted = (d : Description) (q : Query) (budget : ℕ) (run : ForeverRun) → IsFairForever d q budget run →
    AreWritable d q (forever_told q run) → (range_of q).1 ≤ most_steps → (section : Section) → run.ending ≡ Some (Proved section) →
    IsSilentVerdict (forever_subject d q) (forever_log q run) (verdicts.Accepted (length (bases run) + 1))
