-- What a run on certain and possible atoms holds, and what a call of it tells.
use Rattle.std.specs.Prelude.{◌≡◌, ◌≢◌, ℕ, ◌+◌, ◌-◌, ◌*◌, ◌<◌, ◌≤◌, Bool, true, false, List, [], ◌∷◌, ◌++◌, drop, length, map, sum, slice_get, Option, Some, None, IsSome, IsNone, IfSome}
use Rattle.std.specs.List.{AllByRecursion}
use Rattle.cc_arena.specs.declared.ground_laws.GroundLaw.{GroundLaw}
use Rattle.cc_clauses.specs.Tells.{Tells}
use Rattle.cc_defs.specs.declared.refusal.Fault.{Fault}
use Rattle.cc_defs.specs.declared.refusal.Fault.TheVariants as faults
use Rattle.cc_defs.specs.Description.{Description}
use Rattle.cc_defs.specs.GroundLaws.{PlainGroundQuery, StandsForQuery}
use Rattle.cc_defs.specs.Histories.{IsHistory}
use Rattle.cc_defs.specs.Limits.{most_steps, most_variables}
use Rattle.cc_defs.specs.LogTexts.{IsFormed}
use Rattle.cc_defs.specs.Resolved.{Query}
use Rattle.cc_defs.specs.Runs.{axioms_of}
use Rattle.cc_defs.specs.Sections.{Axioms}
use Rattle.cc_defs.specs.Signatures.{Signature}
use Rattle.cc_form.specs.Forms.{section_refusal}
use Rattle.cc_form.specs.Queries.{IsQueryAt}
use Rattle.cc_lists.specs.Sections.{section_lines}
use Rattle.cc_lists.specs.Subjects.{AreGoodAxioms}
use Rattle.cc_sure.specs.Outcomes.{SomeHas}
use Rattle.cc_silent.specs.Sought.{Sought, Any, With, sought_axioms}
use Rattle.cc_sure.specs.SureRuns.{IsFairSure, ReachesSureLimit, SureRun, Tried, Known, Shown, Never, Complete, NoneAtAll, Spent, examples_of, sure_horizon}
use Rattle.cc_sure.specs.SureTold.{SureTold, NoneAt, ExampleIs, NeverSo, AnswersAre, Ends, sure_told}
use Rattle.cc_sure.specs.declared.turn.SureTurn.{SureTurn}
use Rattle.cc_sure.specs.declared.turn.SureTurn.TheVariants as turns
use Rattle.cc_sure.specs.declared.phase.Phase.{Phase}
use Rattle.cc_sure.specs.declared.phase.Phase.TheVariants as phases
use Rattle.cc_theory.specs.Theories.{AreLawsFor, AreLawsOf}

-- The signature, the laws, the query and the budget of each search; the horizon that it is at, the examples so far, the position
-- that is next, of each of its values so far whether no history has it, and what comes next.
pub record SureView : Type 0 where
  pub signature : Signature
  pub laws : List GroundLaw
  pub query : PlainGroundQuery
  pub budget : ℕ
  pub horizon : ℕ
  pub examples : List (List ℕ)
  pub position : ℕ
  pub never : List Bool
  pub phase : Phase

-- neither did the run end nor did a call fail: there is more to come
abbrev pub HasMore : SureView → Type 0
HasMore sure = sure.phase ≢ phases.Ended

-- nothing more is to come
abbrev pub IsOver : SureView → Type 0
IsOver sure = sure.phase ≡ phases.Ended

-- it is about this query of this description
pub record IsSureOf (sure : SureView) (d : Description) (q : Query) : Type 0 where
  pub laws : AreLawsOf sure.signature sure.laws d
  pub query : StandsForQuery sure.query d q

-- ---- what a run leaves

abbrev pub is_never : Tried → Bool
is_never Known = false
is_never (Shown row) = false
is_never (Never section) = true

-- the values that were tried are those of the run's next position
pub record IsAt (q : Query) (sure : SureView) (run : SureRun) : Type 0 where
  pub horizon : sure.horizon ≡ sure_horizon q run
  pub examples : sure.examples ≡ examples_of run
  pub position : sure.position ≡ length run.done
  pub never : sure.never ≡ map is_never run.next

-- it is right that this comes next: a horizon is looked at, or the next value, or the run has ended
abbrev pub Awaits : SureRun → Phase → Type 0
Awaits run phases.Looking = IsNone run.ending × IsNone run.first
Awaits run (phases.Asking form) = IsNone run.ending × IsSome run.first
Awaits run phases.Ended = IsSome run.ending

-- The run tells the truth, and the state is where it leaves it.
pub record Stands (d : Description) (q : Query) (sure : SureView) (run : SureRun) : Type 0 where
  pub fair : IsFairSure d q sure.budget run
  pub at : IsAt q sure run
  pub awaits : Awaits run sure.phase

-- the run that has told nothing
abbrev pub nothing_told : SureRun
nothing_told = record { empty = 0; first = None; done = []; next = []; ending = None }

-- ---- what a call tells

abbrev pub sought_atom : Sought → Option (ℕ × ℕ)
sought_atom Any = None
sought_atom (With position value) = Some (position, value)

-- a turn says this
abbrev pub IsSureTurn : SureTurn → SureTold → Type 0
IsSureTurn (turns.NoHistory horizon) (NoneAt empty) = horizon ≡ empty
IsSureTurn (turns.Example number row) (ExampleIs told shown) = (number ≡ told) × (row ≡ shown)
IsSureTurn (turns.Impossible position value lines) (NeverSo at index section) =
    (position ≡ at) × (value ≡ index) × (lines ≡ section_lines section)
IsSureTurn (turns.Answers position answers) (AnswersAre at told) = (position ≡ at) × (answers ≡ told)
IsSureTurn turns.Complete (Ends sought Complete) = Unit {0}
IsSureTurn turns.NoneAtAll (Ends sought NoneAtAll) = Unit {0}
IsSureTurn (turns.Spent atom lines) (Ends sought (Spent section)) = (atom ≡ sought_atom sought) × (lines ≡ section_lines section)
IsSureTurn turn told = ⊥

-- Behind what a run told comes this turn; with it the run still tells the truth, and the state is where it leaves it.
abbrev pub TellsNext : Description → Query → SureView → SureRun → SureTurn → Type 0
TellsNext d q new run turn = (after : SureRun) × (told : SureTold) × IsSureTurn turn told
    × (sure_told q after ≡ sure_told q run ++ told ∷ []) × Stands d q new after

-- it is about the same
pub record IsSame (old new : SureView) : Type 0 where
  pub signature : new.signature ≡ old.signature
  pub laws : new.laws ≡ old.laws
  pub query : new.query ≡ old.query
  pub budget : new.budget ≡ old.budget

-- A refusal is the limit that the axioms of the search pass which the call comes to; or memory was wanting.
abbrev pub IsRightFault : SureView → Fault → Type 0
IsRightFault sure faults.OutOfMemory = Unit {0}
IsRightFault sure (faults.Refused refusal) = (d : Description) (q : Query) (run : SureRun) → IsSureOf sure d q → Stands d q sure run →
    ReachesSureLimit d q sure.budget run refusal

-- there is more to come, but behind an ending
abbrev pub GoesOn : SureView → SureTurn → Type 0
GoesOn sure (turns.NoHistory horizon) = HasMore sure
GoesOn sure (turns.Example number row) = HasMore sure
GoesOn sure (turns.Impossible position value lines) = HasMore sure
GoesOn sure (turns.Answers position answers) = HasMore sure
GoesOn sure turns.Complete = IsOver sure
GoesOn sure turns.NoneAtAll = IsOver sure
GoesOn sure (turns.Spent atom lines) = IsOver sure

-- its lines can be written
abbrev pub IsShortTurn : SureTurn → Type 0
IsShortTurn (turns.Impossible position value lines) = AllByRecursion IsFormed lines
IsShortTurn (turns.Spent atom lines) = AllByRecursion IsFormed lines
IsShortTurn turn = Unit {0}

-- its numbers are small
abbrev pub IsFewAtom : ℕ × ℕ → Type 0
IsFewAtom atom = (atom.0 < most_variables) × (atom.1 < most_variables)

abbrev pub IsFewTurn : SureTurn → Type 0
IsFewTurn (turns.NoHistory horizon) = horizon ≤ most_steps
IsFewTurn (turns.Example number row) = number ≤ most_variables
IsFewTurn (turns.Impossible position value lines) = IsFewAtom (position, value)
IsFewTurn (turns.Answers position answers) = (position < most_variables) × (length answers ≤ most_variables)
IsFewTurn (turns.Spent atom lines) = IfSome atom IsFewAtom
IsFewTurn turn = Unit {0}

-- where it says that no history has an atom, the axioms of its section are clauses over their variables
abbrev pub IsGoodTurn : Description → Query → (horizon : ℕ) → SureTurn → Type 0
IsGoodTurn d q horizon (turns.Impossible position value lines) = AreGoodAxioms (sought_axioms d q horizon (With position value))
IsGoodTurn d q horizon turn = Unit {0}

-- ---- how much may still come: a number that each call lowers

-- the values that are left, with one more for each position
abbrev pub left_in : List ℕ → (position : ℕ) → List Bool → ℕ
left_in sizes position never = sum (drop position sizes) + length (drop position sizes) + 1 - length never

abbrev pub left_at : SureView → Phase → ℕ
left_at sure phases.Looking = 2 * most_variables + 3 + (sure.query.hi + 1 - sure.horizon)
left_at sure (phases.Asking form) = left_in form.sizes sure.position sure.never
left_at sure phases.Ended = 0

abbrev pub left_of : SureView → ℕ
left_of sure = left_at sure sure.phase

-- ---- what is always true of a run

-- the axioms of a horizon, which pass no limit and whose rows are its histories
pub record IsFormOf (d : Description) (q : Query) (horizon : ℕ) (form : Axioms) : Type 0 where
  pub axioms : form ≡ axioms_of d q None false horizon
  pub tells : Tells form (IsHistory d q horizon None)
  pub within : section_refusal d q horizon true None ≡ None

abbrev pub IsOpened : SureView → Axioms → Type 0
IsOpened sure form = (d : Description) (q : Query) → IsSureOf sure d q → IsFormOf d q sure.horizon form

-- the values that were tried are not more than the position has
abbrev pub AreFewTried : Option ℕ → List Bool → Type 0
AreFewTried None never = never ≡ []
AreFewTried (Some size) never = length never ≤ size

-- a value of the position that some history has is had by an example
abbrev pub AreKnown : SureView → Type 0
AreKnown sure = (value : ℕ) → slice_get sure.never value ≡ Some false → SomeHas sure.examples sure.position value

-- a position of the axioms is asked, and few examples were found
pub record IsAsking (sure : SureView) (form : Axioms) : Type 0 where
  pub low : sure.horizon ≤ sure.query.hi
  pub opened : IsOpened sure form
  pub sizes : sum form.sizes + 1 ≤ most_variables
  pub positions : length form.sizes ≤ sum form.sizes
  pub position : sure.position ≤ length form.sizes
  pub tried : AreFewTried (slice_get form.sizes sure.position) sure.never
  pub examples : length sure.examples + sum (drop sure.position form.sizes) ≤ sum form.sizes + 1 + length sure.never
  pub known : AreKnown sure

abbrev pub IsReady : SureView → Phase → Type 0
IsReady sure phases.Looking = (sure.horizon ≤ sure.query.hi + 1) × (sure.examples ≡ []) × (sure.position ≡ 0) × (sure.never ≡ [])
IsReady sure (phases.Asking form) = IsAsking sure form
IsReady sure phases.Ended = Unit {0}

pub record IsSure (sure : SureView) : Type 0 where
  pub laws_fit : AreLawsFor sure.signature sure.laws
  pub most : sure.query.hi ≤ most_steps
  pub least : sure.query.lo ≤ sure.horizon
  pub steps : (horizon : ℕ) → sure.query.lo ≤ horizon → horizon ≤ sure.query.hi → IsQueryAt sure.signature horizon sure.query
  pub budget : sure.budget ≤ 2000000
  pub ready : IsReady sure sure.phase

-- what a call gives
pub record Gives (old new : SureView) (turn : SureTurn) : Type 0 where
  pub tells : (d : Description) (q : Query) (run : SureRun) → IsSureOf old d q → Stands d q old run → TellsNext d q new run turn
  pub less : left_of new < left_of old
  pub goes : GoesOn new turn
  pub short : IsShortTurn turn
  pub few : IsFewTurn turn
  pub good : (d : Description) (q : Query) → IsSureOf old d q → IsGoodTurn d q new.horizon turn

-- Values that examples have were passed over: nothing was told of them, and all else is as it was.
pub record PassesTo (form : Axioms) (old new : SureView) : Type 0 where
  pub new_is : new ≡ record old { never = new.never }
  pub asking : IsAsking new form
  pub more : length old.never ≤ length new.never
  pub stands : (d : Description) (q : Query) (run : SureRun) → IsSureOf old d q → Stands d q (record old { phase = phases.Asking form }) run →
      (known : List Tried) × AllByRecursion (λ tried. tried ≡ Known) known × (sure_told q (record run { next = run.next ++ known }) ≡ sure_told q run)
      × Stands d q (record new { phase = phases.Asking form }) (record run { next = run.next ++ known })
