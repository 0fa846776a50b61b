-- The log of a run is accepted, unless a search was spent.
use Rattle.std.specs.Prelude.{ℕ, List, [], ◌∷◌, length, flat_map, IfSome}
use Rattle.std.specs.List.{AllByRecursion}
use Rattle.cc_check.specs.Silent.{IsSilentVerdict}
use Rattle.cc_check.specs.declared.silent.SilentVerdict.TheVariants as verdicts
use Rattle.cc_defs.specs.Description.{Description}
use Rattle.cc_defs.specs.LogTexts.{IsFormed, IsShort}
use Rattle.cc_defs.specs.Resolved.{Query}
use Rattle.cc_lists.specs.Sections.{section_lines}
use Rattle.cc_lists.specs.Subjects.{AreGoodAxioms}
use Rattle.cc_silent.specs.Sought.{With, sought_axioms}
use Rattle.cc_silent.specs.SureLogs.{sure_subject}
use Rattle.cc_sure.specs.SureRuns.{IsFairSure, SureEnding, Complete, NoneAtAll, Spent, SureRun, sure_horizon}
use Rattle.cc_sure.specs.SureTold.{SureTold, NoneAt, ExampleIs, NeverSo, AnswersAre, Ends, sure_log, sure_told}

-- the atoms that are told to be impossible, each by its position and the index of its value
abbrev pub never_of : SureTold → List (ℕ × ℕ)
never_of (NoneAt horizon) = []
never_of (ExampleIs number row) = []
never_of (NeverSo position value section) = (position, value) ∷ []
never_of (AnswersAre position answers) = []
never_of (Ends sought ending) = []

abbrev pub never_told : Query → SureRun → List (ℕ × ℕ)
never_told q run = flat_map never_of (sure_told q run)

-- What is told of an atom at this horizon can be written: its numbers are short, its lines are formed, and its section is one
-- over clauses of its own variables.
abbrev pub IsWritableTold : Description → Query → (horizon : ℕ) → SureTold → Type 0
IsWritableTold d q horizon (NoneAt empty) = Unit {0}
IsWritableTold d q horizon (ExampleIs number row) = Unit {0}
IsWritableTold d q horizon (NeverSo position value section) =
    IsShort position × IsShort value × AllByRecursion IsFormed (section_lines section)
    × AreGoodAxioms (sought_axioms d q horizon (With position value))
IsWritableTold d q horizon (AnswersAre position answers) = Unit {0}
IsWritableTold d q horizon (Ends sought ending) = Unit {0}

-- all that a run told can be written
abbrev pub IsWritableRun : Description → Query → SureRun → Type 0
IsWritableRun d q run = AllByRecursion (IsWritableTold d q (sure_horizon q run)) (sure_told q run)

-- an ending is not that a search was spent
abbrev pub IsUnspentEnding : SureEnding → Type 0
IsUnspentEnding Complete = Unit {0}
IsUnspentEnding NoneAtAll = Unit {0}
IsUnspentEnding (Spent section) = ⊥

-- no search was spent: the run has not ended yet, or in another way
abbrev pub IsUnspent : SureRun → Type 0
IsUnspent run = IfSome run.ending IsUnspentEnding

-- a checker accepts the log of such a run, with as many sections as atoms were told to be impossible
abbrev pub SureLogsAreAccepted : Type 0
SureLogsAreAccepted = (d : Description) (q : Query) (budget : ℕ) (run : SureRun) → IsFairSure d q budget run → IsUnspent run →
    IsShort (sure_horizon q run) → IsWritableRun d q run →
    IsSilentVerdict (sure_subject d q) (sure_log q run) (verdicts.Accepted (length (never_told q run)))
