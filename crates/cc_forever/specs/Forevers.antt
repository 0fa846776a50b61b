-- What a run on every horizon holds, and what a call of it tells.
use Rattle.std.specs.Prelude.{◌≡◌, ◌≢◌, ℕ, ◌+◌, ◌-◌, ◌*◌, ◌<◌, ◌≤◌, Bool, true, false, List, [], ◌∷◌, ◌++◌, Option, None, IsNone, IsSome, is_some}
use Rattle.std.specs.List.{AllByRecursion}
use Rattle.cc_arena.specs.declared.ground_laws.GroundLaw.{GroundLaw}
use Rattle.cc_clauses.specs.Tells.{Tells}
use Rattle.cc_defs.specs.declared.refusal.Fault.{Fault}
use Rattle.cc_defs.specs.Description.{Description}
use Rattle.cc_defs.specs.GroundLaws.{PlainGroundQuery, StandsForQuery}
use Rattle.cc_defs.specs.Histories.{IsHistory}
use Rattle.cc_defs.specs.Limits.{most_steps}
use Rattle.cc_defs.specs.LogTexts.{IsFormed}
use Rattle.cc_defs.specs.Resolved.{Query}
use Rattle.cc_defs.specs.Rows.{IsRow}
use Rattle.cc_defs.specs.Signatures.{Signature}
use Rattle.cc_form.specs.Forms.{form_of, section_refusal}
use Rattle.cc_form.specs.Places.{position_sizes}
use Rattle.cc_form.specs.Queries.{IsQueryAt}
use Rattle.cc_forever.specs.Accepted.{AreWritable}
use Rattle.cc_forever.specs.ForeverRuns.{ForeverRun, IsFairForever, ReachesForeverLimit, steps_failed}
use Rattle.cc_forever.specs.ForeverTold.{ForeverTold, FailsOver, FoundAt, HoldsOver, LeftOpen, NoneAt, SpentIn, forever_told}
use Rattle.cc_forever.specs.declared.phase.Phase.{Phase}
use Rattle.cc_forever.specs.declared.phase.Phase.TheVariants as phases
use Rattle.cc_forever.specs.declared.turn.ForeverTurn.{ForeverTurn}
use Rattle.cc_forever.specs.declared.turn.ForeverTurn.TheVariants as turns
use Rattle.cc_lists.specs.Sections.{section_lines}
use Rattle.cc_search.specs.declared.least.Outcome.{Outcome}
use Rattle.cc_search.specs.Outcomes.{IsOutcome}
use Rattle.cc_silent.specs.ForeverLogs.{number_in, query_under}
use Rattle.cc_silent.specs.declared.forever.ForeverHeading.{ForeverHeading}
use Rattle.cc_theory.specs.Theories.{AreLawsFor, AreLawsOf}
use Rattle.cc_turns.specs.Turns.{Behind, GoesOnBy, IsFaultBy}

-- The signature, the laws, the query and the budget of each search; over how many steps the induction has failed, the least history of
-- the last step that did, and what comes next.
pub record ForeverView : Type 0 where
  pub signature : Signature
  pub laws : List GroundLaw
  pub query : PlainGroundQuery
  pub budget : ℕ
  pub failed : ℕ
  pub example : Option (List ℕ)
  pub phase : Phase

-- neither did the run end nor did a call fail: there is more to come
abbrev pub HasMore : ForeverView → Type 0
HasMore forever = forever.phase ≢ phases.Ended

-- nothing more is to come
abbrev pub IsOver : ForeverView → Type 0
IsOver forever = forever.phase ≡ phases.Ended

-- a query of a description, and the budget of each search
pub record ForeverSubject : Type 0 where
  pub description : Description
  pub query : Query
  pub budget : ℕ

pub record IsAbout (forever : ForeverView) (of : ForeverSubject) : Type 0 where
  pub laws : AreLawsOf forever.signature forever.laws of.description
  pub query : StandsForQuery forever.query of.description of.query
  pub budget : forever.budget ≡ of.budget

-- ---- what a run leaves

-- it is right that this comes next: a horizon is looked at, or the step, or the run has ended
abbrev pub Awaits : ForeverRun → Phase → Type 0
Awaits run phases.Looking = IsNone run.ending × IsNone run.next
Awaits run phases.Inducing = IsNone run.ending × IsSome run.next
Awaits run phases.Ended = IsSome run.ending

-- the run is fair, and what it told can be written
pub record IsRightRun (of : ForeverSubject) (run : ForeverRun) : Type 0 where
  pub fair : IsFairForever of.description of.query of.budget run
  pub writable : AreWritable of.description of.query (forever_told of.query run)

-- The run tells the truth, and the state is where it leaves it; its example is still there while there is more to come.
pub record Stands (forever : ForeverView) (of : ForeverSubject) (run : ForeverRun) : Type 0 where
  pub right : IsRightRun of run
  pub failed : forever.failed ≡ steps_failed run
  pub example : HasMore forever → forever.example ≡ run.example
  pub awaits : Awaits run forever.phase

pub right_run : (forever : ForeverView) (of : ForeverSubject) (run : ForeverRun) → IsAbout forever of → Stands forever of run → IsRightRun of run
right_run forever of run about at = at.right

-- the run that has told nothing
abbrev pub nothing_told : ForeverRun
nothing_told = record { failed = []; next = None; example = None; ending = None }

-- ---- what a call tells

-- a turn says this
abbrev pub IsForeverTurn : ForeverTurn → ForeverTold → Type 0
IsForeverTurn (turns.NoHistory horizon lines) (NoneAt at section) = (horizon ≡ at) × (lines ≡ section_lines section)
IsForeverTurn (turns.Fails steps) (FailsOver over) = steps ≡ over
IsForeverTurn (turns.Holds steps lines) (HoldsOver over section) = (steps ≡ over) × (lines ≡ section_lines section)
IsForeverTurn (turns.Found horizon row) (FoundAt at found) = (horizon ≡ at) × (row ≡ found)
IsForeverTurn (turns.Unsettled steps example) (LeftOpen over row) = (steps ≡ over) × (example ≡ row)
IsForeverTurn (turns.Spent heading lines) (SpentIn sought section) = (heading ≡ sought) × (lines ≡ section_lines section)
IsForeverTurn turn told = ⊥

-- a run ends with this turn
abbrev pub is_last : ForeverTurn → Bool
is_last (turns.NoHistory horizon lines) = false
is_last (turns.Fails steps) = false
is_last (turns.Holds steps lines) = true
is_last (turns.Found horizon row) = true
is_last (turns.Unsettled steps example) = true
is_last (turns.Spent heading lines) = true

-- with this turn a run that has not ended goes on to the other one
pub record Steps (of : ForeverSubject) (run : ForeverRun) (turn : ForeverTurn) (after : ForeverRun) : Type 0 where
  pub open_yet : IsNone run.ending
  pub told : ForeverTold
  pub is : IsForeverTurn turn told
  pub all : forever_told of.query after ≡ forever_told of.query run ++ told ∷ []
  pub ended : is_some after.ending ≡ is_last turn

-- it can be printed: its lines can be written, its numbers are small, and its row is one of its horizon
abbrev pub IsFitTurn : Signature → ForeverTurn → Type 0
IsFitTurn signature (turns.NoHistory horizon lines) = (horizon ≤ most_steps) × AllByRecursion IsFormed lines
IsFitTurn signature (turns.Fails steps) = steps ≤ most_steps
IsFitTurn signature (turns.Holds steps lines) = (steps ≤ most_steps) × AllByRecursion IsFormed lines
IsFitTurn signature (turns.Found horizon row) = (horizon ≤ most_steps) × IsRow (position_sizes signature horizon) row
IsFitTurn signature (turns.Unsettled steps example) = (steps ≤ most_steps) × IsRow (position_sizes signature steps) example
IsFitTurn signature (turns.Spent heading lines) = AllByRecursion IsFormed lines

-- ---- how much may still come: a number that each call lowers

abbrev pub left_at : (failed : ℕ) → Phase → ℕ
left_at failed phases.Looking = 2 * (most_steps - failed) + 2
left_at failed phases.Inducing = 2 * (most_steps - failed) + 1
left_at failed phases.Ended = 0

abbrev pub left_of : ForeverView → ℕ
left_of forever = left_at forever.failed forever.phase

-- ---- what is always true of a run

-- what comes next can be searched for, or told
abbrev pub IsReady : ForeverView → Phase → Type 0
IsReady forever phases.Looking = (forever.query.lo + forever.failed ≤ forever.query.hi + 1) × (IsNone forever.example → forever.failed ≡ 0)
IsReady forever phases.Inducing = (forever.query.lo + forever.failed ≤ forever.query.hi) × (forever.failed < most_steps)
IsReady forever phases.Ended = Unit {0}

pub record IsForever (forever : ForeverView) : Type 0 where
  pub laws_fit : AreLawsFor forever.signature forever.laws
  pub ordered : forever.query.lo ≤ forever.query.hi
  pub most : forever.query.hi ≤ most_steps
  pub asked : IsQueryAt forever.signature forever.query.lo forever.query
  pub few : forever.failed ≤ most_steps
  pub budget : forever.budget ≤ 2000000
  pub ready : IsReady forever forever.phase

-- ---- what a search gives

-- a search over the axioms of a query at a horizon, which pass no limit, came to this
pub record IsSearched (d : Description) (q : Query) (horizon budget : ℕ) (outcome : Outcome) : Type 0 where
  pub within : section_refusal d q horizon true None ≡ None
  pub tells : Tells (form_of d q horizon true None) (IsHistory d q horizon None)
  pub comes : IsOutcome (form_of d q horizon true None) budget outcome

-- so it is under a heading, whatever a state is about
abbrev pub IsSearchedUnder : ForeverView → ForeverHeading → Outcome → Type 0
IsSearchedUnder forever heading outcome = (d : Description) (q : Query) → AreLawsOf forever.signature forever.laws d → StandsForQuery forever.query d q →
    IsSearched d (query_under q heading) (number_in heading) forever.budget outcome

-- ---- what a call gives

-- it is about the same
pub record IsSame (old new : ForeverView) : Type 0 where
  pub signature : new.signature ≡ old.signature
  pub laws : new.laws ≡ old.laws
  pub query : new.query ≡ old.query
  pub budget : new.budget ≡ old.budget

pub record Gives (old new : ForeverView) (turn : ForeverTurn) : Type 0 where
  pub behind : Behind IsAbout Stands Steps left_of old new turn
  pub fit : (of : ForeverSubject) (run : ForeverRun) → IsAbout old of → Stands old of run → IsFitTurn old.signature turn
  pub goes : GoesOnBy (is_last turn) (HasMore new)

-- A refusal is the limit that the axioms of the search pass which the call comes to; or memory was wanting.
abbrev pub IsRightFault : ForeverView → Fault → Type 0
IsRightFault forever fault = (of : ForeverSubject) (run : ForeverRun) → IsAbout forever of → Stands forever of run →
    IsFaultBy (ReachesForeverLimit of.description of.query run) fault
