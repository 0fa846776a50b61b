-- The search of one section: what it holds, and what it has told.
use Rattle.std.specs.Prelude.{◌≡◌, ◌≢◌, ℕ, ◌+◌, ◌<◌, ◌≤◌, List, [], ◌∷◌, ◌++◌, length, Option, Some, None, IsSome, IsNone, Contains}
use Rattle.cc_cdcl.specs.Solvers.{SolverView, Found, Ready}
use Rattle.cc_clauses.specs.RowsOf.{IsLeastRowOf, IsRowOf}
use Rattle.cc_defs.specs.declared.log.LogLine.{LogLine}
use Rattle.cc_defs.specs.declared.log.LogLine.TheVariants as lines
use Rattle.cc_defs.specs.declared.refusal.Fault.{Fault}
use Rattle.cc_defs.specs.declared.refusal.Fault.TheVariants as faults
use Rattle.cc_defs.specs.declared.refusal.LimitAt.TheVariants as limits
use Rattle.cc_defs.specs.Histories.{AreFirstOf}
use Rattle.cc_defs.specs.Limits.{most_histories}
use Rattle.cc_defs.specs.LogTexts.{IsFormed}
use Rattle.cc_defs.specs.Refusals.{past}
use Rattle.cc_defs.specs.Runs.{Ask, Step, Derive, Tell, Section, TellsRows, rows_of}
use Rattle.cc_defs.specs.Sections.{Axioms}
use Rattle.cc_kernel.specs.Kernels.{clauses_of}
use Rattle.cc_lists.specs.Sections.{open_section, rows_in, section_of}
use Rattle.cc_query.specs.declared.phase.Part.TheVariants as parts
use Rattle.cc_query.specs.declared.phase.Phase.{Phase}
use Rattle.cc_query.specs.declared.phase.Phase.TheVariants as phases
use Rattle.cc_query.specs.Lefts.{left_at}
use Rattle.cc_query.specs.Parts.{clauses_behind}
use Rattle.cc_query.specs.Sessions.{HasFound, Holds, IsWithin}
use Rattle.cc_search.specs.declared.stage.Find.{Find}
use Rattle.cc_search.specs.declared.stage.Find.TheVariants as finds
use Rattle.cc_search.specs.declared.stage.Stage.{Stage}
use Rattle.cc_search.specs.declared.stage.Stage.TheVariants as stages

-- What is asked, how many axioms the section has, the last row that was told, and what comes next.
pub record SearchView : Type 0 where
  pub ask : Ask
  pub axioms : ℕ
  pub row : List ℕ
  pub stage : Stage

-- neither did the section end nor did a call fail: there is more to come
abbrev pub HasMore : SearchView → Type 0
HasMore state = state.stage ≢ stages.Ended

-- nothing more is to come
abbrev pub IsOver : SearchView → Type 0
IsOver state = state.stage ≡ stages.Ended

-- ---- what was told so far

-- it is searched
pub record IsSearched (axioms : Axioms) (section : Section) (solver : SolverView) (listed : ℕ) : Type 0 where
  pub steps : List Step
  pub section_is : section ≡ open_section steps
  pub holds : Holds axioms steps solver
  pub listed_is : listed ≡ length (rows_in steps)

-- its last row is not denied yet
pub record IsTold (axioms : Axioms) (section : Section) (row : List ℕ) (solver : SolverView) (listed : ℕ) : Type 0 where
  pub steps : List Step
  pub section_is : section ≡ section_of steps (Some row) None
  pub holds : Holds axioms steps solver
  pub least : IsLeastRowOf solver.sizes (clauses_of solver.kernel) row
  pub standing : solver.standing ≡ Found row
  pub listed_is : listed ≡ length (rows_in steps) + 1

-- one of its clauses is empty
pub record IsRefuted (axioms : Axioms) (section : Section) : Type 0 where
  pub steps : List Step
  pub section_is : section ≡ open_section steps
  pub empty : Contains (clauses_behind axioms steps) []

-- it is right that this comes next
abbrev pub Awaits : Axioms → Section → List ℕ → Stage → Type 0
Awaits axioms section row (stages.Searching solver listed) = IsSearched axioms section solver listed
Awaits axioms section row (stages.Denying solver listed) = IsTold axioms section row solver listed
Awaits axioms section row stages.Refuted = IsRefuted axioms section
Awaits axioms section row stages.Ended = IsSome section.word

-- A search over these axioms, for so many rows within this budget, has told this of their section: the first rows of the clauses,
-- not more of them than may be told, with right lines; it has ended only as `TellsRows` says.
pub record Stands (axioms : Axioms) (count : Option ℕ) (budget : ℕ) (state : SearchView) (section : Section) : Type 0 where
  pub count_is : state.ask.count ≡ count
  pub budget_is : state.ask.budget ≡ budget
  pub axioms_are : state.axioms ≡ length axioms.clauses
  pub tells : TellsRows (IsRowOf axioms.sizes axioms.clauses) axioms count budget section
  pub few : length (rows_of section) ≤ most_histories
  pub awaits : Awaits axioms section state.row state.stage

-- ---- what a call tells

-- the section with a line more
abbrev pub line_behind : Section → LogLine → Section
line_behind section (lines.Section conditions horizon) = section
line_behind section (lines.Derived clause chain) = open_section (section.steps ++ Derive clause chain ∷ [])
line_behind section (lines.Block row) = open_section (section.steps ++ Tell row ∷ [])
line_behind section (lines.End word) = section

-- with what was found next, and this row, where it is one
abbrev pub found_behind : Section → List ℕ → Find → Section
found_behind section row (finds.Line line) = line_behind section line
found_behind section row finds.Row = section_of section.steps (Some row) None
found_behind section row (finds.End word) = section_of section.steps section.last (Some word)

-- a line comes in its place: a block behind the row that it denies
abbrev pub IsLineBehind : Section → LogLine → Type 0
IsLineBehind section (lines.Section conditions horizon) = ⊥
IsLineBehind section (lines.Derived clause chain) = IsNone section.last
IsLineBehind section (lines.Block row) = section.last ≡ Some row
IsLineBehind section (lines.End word) = ⊥

abbrev pub IsBehind : Section → Find → Type 0
IsBehind section (finds.Line line) = IsNone section.word × IsLineBehind section line
IsBehind section finds.Row = IsNone section.word × IsNone section.last
IsBehind section (finds.End word) = IsNone section.word

-- the numbers of a line have at most nine digits, and its chain has a pivot between each two clauses
abbrev pub IsShortFind : Find → Type 0
IsShortFind (finds.Line line) = IsFormed line
IsShortFind finds.Row = Unit {0}
IsShortFind (finds.End word) = Unit {0}

-- there is more to come, but for the end
abbrev pub GoesOn : SearchView → Find → Type 0
GoesOn state (finds.Line line) = HasMore state
GoesOn state finds.Row = HasMore state
GoesOn state (finds.End word) = IsOver state

-- this comes behind what was told
abbrev pub TellsNext : SearchView → SearchView → Find → Type 0
TellsNext old new find = (axioms : Axioms) (count : Option ℕ) (budget : ℕ) (section : Section) → Stands axioms count budget old section →
    IsBehind section find × Stands axioms count budget new (found_behind section new.row find)

-- So many rows were told as may be told, the section has not ended, and there is one more.
pub record TellsTooMany (axioms : Axioms) (section : Section) : Type 0 where
  pub open_yet : IsNone section.word
  pub many : length (rows_of section) ≡ most_histories
  pub further : List ℕ
  pub first : AreFirstOf (IsRowOf axioms.sizes axioms.clauses) (rows_of section ++ further ∷ [])

-- a refusal may come only then; or memory was wanting
abbrev pub IsRightFault : SearchView → Fault → Type 0
IsRightFault state faults.OutOfMemory = Unit {0}
IsRightFault state (faults.Refused refusal) = (refusal ≡ past limits.Histories)
    × ((axioms : Axioms) (count : Option ℕ) (budget : ℕ) (section : Section) → Stands axioms count budget state section → TellsTooMany axioms section)

-- ---- how much may still come: a number that each call lowers

-- the phase of a session that tells the same
abbrev pub phase_of : Stage → Phase
phase_of (stages.Searching solver listed) = phases.Searching parts.Histories solver listed
phase_of (stages.Denying solver listed) = phases.Denying solver listed
phase_of stages.Refuted = phases.Refuted parts.Histories 0
phase_of stages.Ended = phases.Ended

abbrev pub left_of : SearchView → ℕ
left_of state = left_at (phase_of state.stage)

-- ---- what a call gives

pub record Gives (old new : SearchView) (find : Find) : Type 0 where
  pub tells : TellsNext old new find
  pub short : IsShortFind find
  pub less : left_of new < left_of old
  pub goes : GoesOn new find

-- ---- what is always true of a search

-- it is ready for what comes next
abbrev pub IsReady : Ask → Stage → Type 0
IsReady ask (stages.Searching solver listed) = (solver.standing ≡ Ready) × IsWithin ask solver listed
IsReady ask (stages.Denying solver listed) =
    HasFound solver × ((denied : ℕ) × (listed ≡ denied + 1) × (denied + 1 ≤ most_histories) × IsWithin ask solver denied)
IsReady ask stages.Refuted = Unit {0}
IsReady ask stages.Ended = Unit {0}

pub record IsSearch (state : SearchView) : Type 0 where
  pub budget : state.ask.budget ≤ 2000000
  pub ready : IsReady state.ask state.stage
