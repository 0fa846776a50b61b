-- What a session holds, and what the events so far leave it to hold.
use Rattle.std.specs.Prelude.{◌≡◌, ◌≢◌, ℕ, ◌+◌, ◌≤◌, ◌⊎◌, Bool, true, false, if◌then◌else◌, IfSome, List, [], ◌∷◌, ◌++◌, map, length, sum, Option, Some, None, IsSome, IsNone, Contains}
use Rattle.std.specs.List.{AllByRecursion, list_any}
use Rattle.cc_arena.specs.declared.ground_laws.GroundLaw.{GroundLaw}
use Rattle.cc_cdcl.specs.Solvers.{SolverView, Found, Ready}
use Rattle.cc_clauses.specs.RowsOf.{IsLeastRowOf}
use Rattle.cc_defs.specs.declared.event.Ending.{Ending}
use Rattle.cc_defs.specs.declared.event.Ending.TheVariants as endings
use Rattle.cc_defs.specs.declared.event.Event.{Event}
use Rattle.cc_defs.specs.declared.event.Event.TheVariants as events
use Rattle.cc_defs.specs.declared.event.Told.{Told}
use Rattle.cc_defs.specs.declared.log.EndWord.{EndWord}
use Rattle.cc_defs.specs.declared.log.EndWord.TheVariants as words
use Rattle.cc_defs.specs.declared.log.LogLine.TheVariants as lines
use Rattle.cc_defs.specs.declared.refusal.Fault.{Fault}
use Rattle.cc_defs.specs.declared.refusal.Fault.TheVariants as faults
use Rattle.cc_defs.specs.declared.refusal.LimitAt.TheVariants as limits
use Rattle.cc_defs.specs.declared.refusal.Refusal.{Refusal}
use Rattle.cc_defs.specs.Clauses.{IsOver}
use Rattle.cc_defs.specs.Description.{Description}
use Rattle.cc_defs.specs.GroundLaws.{PlainGroundQuery, StandsForQuery}
use Rattle.cc_defs.specs.Histories.{AreFirst}
use Rattle.cc_defs.specs.Limits.{most_clauses, most_histories, most_steps, most_variables}
use Rattle.cc_defs.specs.Refusals.{past}
use Rattle.cc_defs.specs.Resolved.{Query}
use Rattle.cc_defs.specs.Rows.{IsRow}
use Rattle.cc_defs.specs.Runs.{Ask, Step, Derive, Tell, Section, Horizon, Histories, Conditions, Claim, Failure, Run, EndsWith, IsFairRun, axioms_of, events_of, first_horizon, horizon_at, key_row, rows_of}
use Rattle.cc_defs.specs.Sections.{Axioms, row_denial}
use Rattle.cc_defs.specs.Signatures.{Signature}
use Rattle.cc_form.specs.Forms.{TellsHistories as ClausesTell}
use Rattle.cc_form.specs.Queries.{IsQueryAt}
use Rattle.cc_kernel.specs.declared.kernel.Origin.TheVariants as origins
use Rattle.cc_kernel.specs.Kernels.{Entry, added, axiom_of, clauses_of, derived_count}
use Rattle.cc_lists.specs.Horizons.{Fits, first_at, last_at, opening_refusal}
use Rattle.cc_lists.specs.Sections.{section_of, open_section, rows_in}
use Rattle.cc_lists.specs.Subjects.{AreGoodAxioms, with_row}
use Rattle.cc_query.specs.declared.phase.Part.{Part}
use Rattle.cc_query.specs.declared.phase.Part.TheVariants as parts
use Rattle.cc_query.specs.declared.phase.Phase.{Phase}
use Rattle.cc_query.specs.declared.phase.Phase.TheVariants as phases
use Rattle.cc_query.specs.Parts.{query_of, axioms_at, is_conditions, told_by, clauses_behind}
use Rattle.cc_theory.specs.Theories.{AreLawsFor, AreLawsOf}

-- The signature, the laws, the query and what is asked; the horizon that is tried, whether a path met the conditions of a query
-- with a claim at an earlier one, the last row that was told, and what comes next.
pub record SessionView : Type 0 where
  pub signature : Signature
  pub laws : List GroundLaw
  pub query : PlainGroundQuery
  pub ask : Ask
  pub horizon : ℕ
  pub met : Bool
  pub row : List ℕ
  pub phase : Phase

-- neither the ending was given nor did a call fail: there is more to come
abbrev pub HasMore : SessionView → Type 0
HasMore session = session.phase ≢ phases.Ended

-- it searches for this query of this description
pub record IsSessionOf (session : SessionView) (d : Description) (q : Query) : Type 0 where
  pub laws : AreLawsOf session.signature session.laws d
  pub query : StandsForQuery session.query d q

-- ---- a kernel and the section that made it

abbrev pub entry_of : List ℕ → Step → Entry
entry_of sizes (Derive clause chain) = record { clause = clause; origin = origins.Derived }
entry_of sizes (Tell row) = record { clause = row_denial sizes row; origin = origins.Block }

-- it has the axioms of the section and then a clause for each step
pub record Holds (axioms : Axioms) (steps : List Step) (solver : SolverView) : Type 0 where
  pub sizes : solver.sizes ≡ axioms.sizes
  pub variables : solver.kernel.variables ≡ axioms.variables
  pub few : axioms.variables ≤ most_variables
  pub entries : solver.kernel.entries ≡ map axiom_of axioms.clauses ++ map (entry_of axioms.sizes) steps

-- ---- what a run leaves

-- some path meets the conditions of a query with a claim at this horizon
abbrev pub has_conditions : Horizon → Bool
has_conditions (Histories section) = false
has_conditions (Conditions section) = false
has_conditions (Claim conditions claim) = true
has_conditions (Failure conditions claim row) = true

-- the rows of a part's clauses are the histories that it looks for
abbrev pub RowsAreHistories : Description → Query → Ask → ℕ → Part → Type 0
RowsAreHistories d q ask horizon part = ClausesTell d (query_of part q) horizon (key_row ask) (axioms_at d q ask horizon part)

-- the section of a part is the first one of the next horizon
abbrev pub Opens : Query → Part → Option Horizon → Type 0
Opens q parts.Histories next = IsNone q.claim × (next ≡ None)
Opens q parts.Conditions next = IsSome q.claim × (next ≡ None)
Opens q parts.Claim next = ⊥

-- it is searched
pub record IsSearched (d : Description) (q : Query) (session : SessionView) (run : Run) (part : Part) (solver : SolverView) (listed : ℕ) : Type 0 where
  pub steps : List Step
  pub before : Section
  pub next : run.next ≡ Some (told_by part before (open_section steps))
  pub holds : Holds (axioms_at d q session.ask session.horizon part) steps solver
  pub rows : RowsAreHistories d q session.ask session.horizon part
  pub listed_is : listed ≡ length (rows_in steps)

-- its last history is not denied yet
pub record IsTold (d : Description) (q : Query) (session : SessionView) (run : Run) (solver : SolverView) (listed : ℕ) : Type 0 where
  pub steps : List Step
  pub next : run.next ≡ Some (Histories (section_of steps (Some session.row) None))
  pub holds : Holds (axioms_at d q session.ask session.horizon parts.Histories) steps solver
  pub rows : RowsAreHistories d q session.ask session.horizon parts.Histories
  pub least : IsLeastRowOf solver.sizes (clauses_of solver.kernel) session.row
  pub standing : solver.standing ≡ Found session.row
  pub listed_is : listed ≡ length (rows_in steps) + 1

-- one of its clauses is empty
pub record IsRefuted (d : Description) (q : Query) (session : SessionView) (run : Run) (part : Part) (listed : ℕ) : Type 0 where
  pub steps : List Step
  pub before : Section
  pub next : run.next ≡ Some (told_by part before (open_section steps))
  pub rows : RowsAreHistories d q session.ask session.horizon part
  pub empty : Contains (clauses_behind (axioms_at d q session.ask session.horizon part) steps) []
  pub listed_is : listed ≡ length (rows_in steps)

-- it has ended; a counterexample is at hand where the section on the claim found one
pub record IsClosed (d : Description) (q : Query) (session : SessionView) (run : Run) (part : Part) (word : EndWord) (listed : ℕ) : Type 0 where
  pub section : Section
  pub before : Section
  pub next : run.next ≡ Some (told_by part before section)
  pub word_is : EndsWith word section
  pub listed_is : listed ≡ length (rows_of section)
  pub found : part ≡ parts.Claim → word ≡ words.Found → AreFirst d q session.horizon None (session.row ∷ [])

-- it is right that this comes next
abbrev pub Awaits : Description → Query → SessionView → Run → Phase → Type 0
Awaits d q session run (phases.Opening part) = (run.ending ≡ None) × Opens q part run.next
Awaits d q session run (phases.Searching part solver listed) = (run.ending ≡ None) × IsSearched d q session run part solver listed
Awaits d q session run (phases.Denying solver listed) = (run.ending ≡ None) × IsTold d q session run solver listed
Awaits d q session run (phases.Refuted part listed) = (run.ending ≡ None) × IsRefuted d q session run part listed
Awaits d q session run (phases.Closed part word listed) = (run.ending ≡ None) × IsClosed d q session run part word listed
Awaits d q session run phases.Failing =
    (run.ending ≡ None) × ((conditions : Section) × (claim : Section) × (run.next ≡ Some (Failure conditions claim session.row)))
Awaits d q session run phases.Ended = IsSome run.ending

-- the session stands where the run leaves it
pub record StandsBehind (d : Description) (q : Query) (session : SessionView) (run : Run) : Type 0 where
  pub horizon : session.horizon ≡ horizon_at (first_horizon q session.ask.after) run
  pub met : session.met ≡ list_any has_conditions run.done
  pub awaits : Awaits d q session run session.phase

-- These events were told: they are those of a run that tells the truth, and the session stands where it leaves it.
abbrev pub After : Description → Query → SessionView → List Told → Type 0
After d q session given =
    (run : Run) × IsFairRun d q session.ask run × (given ≡ events_of (first_horizon q session.ask.after) run) × StandsBehind d q session run

-- ---- what a call of a session says

-- it searches for the same
pub record IsSame (old new : SessionView) : Type 0 where
  pub signature : new.signature ≡ old.signature
  pub laws : new.laws ≡ old.laws
  pub query : new.query ≡ old.query
  pub ask : new.ask ≡ old.ask

-- this event comes behind those that were told
abbrev pub Tells : SessionView → SessionView → Event → Type 0
Tells old new event =
    (d : Description) (q : Query) (given : List Told) → IsSessionOf old d q → After d q old given → After d q new (given ++ with_row event new.row ∷ [])

-- So many histories were told at the horizon of a run as its limit says, their section has not ended, and there is one more.
pub record TellsTooMany (d : Description) (q : Query) (ask : Ask) (run : Run) : Type 0 where
  pub section : Section
  pub next : run.next ≡ Some (Histories section)
  pub open_yet : IsNone section.word
  pub told : List (List ℕ)
  pub told_is : rows_of section ≡ told
  pub many : length told ≡ most_histories
  pub further : List ℕ
  pub first : AreFirst d q (horizon_at (first_horizon q ask.after) run) (key_row ask) (told ++ further ∷ [])

pub record HasTooMany (d : Description) (q : Query) (session : SessionView) (given : List Told) : Type 0 where
  pub run : Run
  pub fair : IsFairRun d q session.ask run
  pub given_is : given ≡ events_of (first_horizon q session.ask.after) run
  pub many : TellsTooMany d q session.ask run

-- the part of a horizon whose section opens next
abbrev pub opens_at : Phase → Option Part
opens_at (phases.Opening part) = Some part
opens_at (phases.Closed parts.Conditions words.Found listed) = Some parts.Claim
opens_at (phases.Closed part word listed) = None
opens_at (phases.Searching part solver listed) = None
opens_at (phases.Denying solver listed) = None
opens_at (phases.Refuted part listed) = None
opens_at phases.Failing = None
opens_at phases.Ended = None

-- this refusal may come: that of the section that opens, or that a history is one too many
abbrev pub MayRefuse : Description → Query → SessionView → List Told → Refusal → Type 0
MayRefuse d q session given refusal =
    ((part : Part) × (opens_at session.phase ≡ Some part) × (session.horizon ≤ last_at session.query session.ask.after)
    × (opening_refusal d q session.ask session.horizon (is_conditions part) ≡ Some refusal))
    ⊎ ((refusal ≡ past limits.Histories) × HasTooMany d q session given)

-- or memory was wanting
abbrev pub IsRightFault : SessionView → Fault → Type 0
IsRightFault session faults.OutOfMemory = Unit {0}
IsRightFault session (faults.Refused refusal) =
    (d : Description) (q : Query) (given : List Told) → IsSessionOf session d q → After d q session given → MayRefuse d q session given refusal

-- a section's rules and clauses are within their limits, where this is its heading
abbrev pub OpensWithin : SessionView → Event → Type 0
OpensWithin session event = (d : Description) (q : Query) → IsSessionOf session d q → (conditions : Bool) (horizon : ℕ) →
    event ≡ events.Log (lines.Section conditions horizon) → opening_refusal d q session.ask horizon conditions ≡ None

-- and its axioms are clauses over their variables, the first of which are those of the positions
abbrev pub OpensGood : SessionView → Event → Type 0
OpensGood session event = (d : Description) (q : Query) → IsSessionOf session d q → (conditions : Bool) (horizon : ℕ) →
    event ≡ events.Log (lines.Section conditions horizon) → AreGoodAxioms (axioms_of d q session.ask.after conditions horizon)

-- the section with this heading is searched, and has no line yet
abbrev pub IsOpened : SessionView → (conditions : Bool) → ℕ → Type 0
IsOpened session conditions horizon =
    (part : Part) × (solver : SolverView) × (session.phase ≡ phases.Searching part solver 0) × (derived_count solver.kernel.entries ≡ 0)
    × (conditions ≡ is_conditions part) × (horizon ≡ session.horizon)

-- so it is behind its heading
abbrev pub StandsOpened : SessionView → Event → Type 0
StandsOpened session event = (conditions : Bool) (horizon : ℕ) → event ≡ events.Log (lines.Section conditions horizon) → IsOpened session conditions horizon

-- the ending behind the last horizon
abbrev pub ending_behind : (met : Bool) → Part → Ending
ending_behind met parts.Histories = endings.NoHistory
ending_behind met parts.Conditions = if met then endings.ClaimHolds else endings.ClaimEmpty
ending_behind met parts.Claim = if met then endings.ClaimHolds else endings.ClaimEmpty

-- the row that was found is denied
pub record IsBlocked (old new : SolverView) : Type 0 where
  pub sizes : new.sizes ≡ old.sizes
  pub kernel : (row : List ℕ) → old.standing ≡ Found row → new.kernel ≡ added old.kernel (row_denial old.sizes row) origins.Block

-- ---- what is always true of a session

-- what is asked can be searched for
pub record IsAskable (signature : Signature) (laws : List GroundLaw) (query : PlainGroundQuery) (ask : Ask) : Type 0 where
  pub laws_fit : AreLawsFor signature laws
  pub ordered : query.lo ≤ query.hi
  pub most : query.hi ≤ most_steps
  pub steps : (horizon : ℕ) → query.lo ≤ horizon → horizon ≤ query.hi → IsQueryAt signature horizon query
  pub key : IfSome ask.after (Fits signature query)
  pub count : IfSome ask.count (λ most. 1 ≤ most)
  pub budget : ask.budget ≤ 2000000

-- the solver of a section: not past its budget, and with few clauses behind its axioms, where so many rows were denied; they
-- are over its variables, the first of which are those of the positions
pub record IsWithin (ask : Ask) (solver : SolverView) (denied : ℕ) : Type 0 where
  pub derived : derived_count solver.kernel.entries ≤ ask.budget
  pub few : length solver.kernel.entries ≤ most_clauses + derived_count solver.kernel.entries + denied
  pub denied_few : denied ≤ most_histories
  pub over : AllByRecursion (IsOver solver.kernel.variables) (clauses_of solver.kernel)
  pub variables : solver.kernel.variables ≤ most_variables
  pub positions : sum solver.sizes ≤ solver.kernel.variables

-- a row of its positions was found
abbrev pub HasFound : SolverView → Type 0
HasFound solver = (row : List ℕ) × (solver.standing ≡ Found row) × IsRow solver.sizes row

-- it is ready for what comes next, at a horizon, the last of which is this
abbrev pub IsReady : Ask → (horizon last : ℕ) → Phase → Type 0
IsReady ask horizon last (phases.Opening part) = horizon ≤ last + 1
IsReady ask horizon last (phases.Searching part solver listed) = (horizon ≤ last) × (solver.standing ≡ Ready) × IsWithin ask solver listed
IsReady ask horizon last (phases.Denying solver listed) =
    (horizon ≤ last) × HasFound solver × ((denied : ℕ) × (listed ≡ denied + 1) × (denied + 1 ≤ most_histories) × IsWithin ask solver denied)
IsReady ask horizon last (phases.Refuted part listed) = horizon ≤ last
IsReady ask horizon last (phases.Closed part word listed) = horizon ≤ last
IsReady ask horizon last phases.Failing = horizon ≤ last
IsReady ask horizon last phases.Ended = horizon ≤ last + 1

pub record IsSession (session : SessionView) : Type 0 where
  pub askable : IsAskable session.signature session.laws session.query session.ask
  pub first : first_at session.query session.ask.after ≤ session.horizon
  pub ready : IsReady session.ask session.horizon (last_at session.query session.ask.after) session.phase
