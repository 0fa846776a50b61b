-- The log of a run is accepted, unless a search was spent.
use Rattle.std.specs.Prelude.{ℕ, length, Option, IfSome}
use Rattle.std.specs.List.{AllByRecursion}
use Rattle.cc_check.specs.declared.silent.SilentVerdict.TheVariants as verdicts
use Rattle.cc_check.specs.Silent.{IsSilentVerdict}
use Rattle.cc_defs.specs.LogTexts.{IsFormed, IsShort}
use Rattle.cc_defs.specs.Resolved.{Query}
use Rattle.cc_silent.specs.GeneralLogs.{general_subject}
use Rattle.cc_general.specs.GeneralRuns.{GeneralEnding, Complete, Asked, NoneAtAll, SpentAmong, SpentOver, GeneralRun, IsFairGeneral, Shown, general_horizon}
use Rattle.cc_general.specs.GeneralTold.{general_log}
use Rattle.cc_lists.specs.Sections.{section_lines}
use Rattle.cc_lists.specs.Subjects.{AreGoodAxioms}
use Rattle.cc_wide.specs.WideLaws.{WideDescription}
use Rattle.cc_wide.specs.WideLists.{rival_axioms}

-- what is told of a history of this horizon can be written: its numbers are short, its lines are formed, and its section is one over
-- clauses of its own variables
abbrev pub IsWritableShown : WideDescription → (horizon : ℕ) → Shown → Type 0
IsWritableShown w horizon shown =
    AllByRecursion IsShort shown.row × AllByRecursion IsFormed (section_lines shown.section) × AreGoodAxioms (rival_axioms w horizon shown.row)

-- all that a run told of its histories can be written
abbrev pub IsWritableGeneral : WideDescription → Query → GeneralRun → Type 0
IsWritableGeneral w q run = AllByRecursion (IsWritableShown w (general_horizon q run)) run.shown

-- an ending is not that a search was spent
abbrev pub IsUnspentEnding : GeneralEnding → Type 0
IsUnspentEnding Complete = Unit {0}
IsUnspentEnding Asked = Unit {0}
IsUnspentEnding NoneAtAll = Unit {0}
IsUnspentEnding (SpentAmong section) = ⊥
IsUnspentEnding (SpentOver row section) = ⊥

-- no search was spent: the run has not ended yet, or in another way
abbrev pub IsUnspent : GeneralRun → Type 0
IsUnspent run = IfSome run.ending IsUnspentEnding

-- a checker accepts the log of such a run, with a section for each history
abbrev pub GeneralLogsAreAccepted : Type 0
GeneralLogsAreAccepted = (w : WideDescription) (q : Query) (count : Option ℕ) (budget : ℕ) (run : GeneralRun) →
    IsFairGeneral w q count budget run → IsUnspent run → IsShort (general_horizon q run) → IsWritableGeneral w q run →
    IsSilentVerdict (general_subject w q) (general_log q run) (verdicts.Accepted (length run.shown))
