-- What a run over candidates holds, and what a call of it tells.
use Rattle.std.specs.Prelude.{◌≡◌, ◌≢◌, ℕ, ◌+◌, ◌-◌, ◌*◌, ◌≤◌, List, [], ◌∷◌, ◌++◌, length, Option, Some, None, IsSome, IsNone, IfSome}
use Rattle.std.specs.List.{AllByRecursion}
use Rattle.cc_clauses.specs.Tells.{Tells}
use Rattle.cc_defs.specs.declared.log.LogLine.{LogLine}
use Rattle.cc_defs.specs.declared.refusal.Fault.{Fault}
use Rattle.cc_defs.specs.declared.refusal.Fault.TheVariants as faults
use Rattle.cc_defs.specs.GroundLaws.{PlainGroundQuery, StandsForQuery}
use Rattle.cc_defs.specs.Limits.{most_histories, most_steps}
use Rattle.cc_defs.specs.LogTexts.{IsFormed}
use Rattle.cc_defs.specs.Resolved.{Query}
use Rattle.cc_defs.specs.Rows.{IsRow}
use Rattle.cc_defs.specs.Runs.{Section, rows_of}
use Rattle.cc_defs.specs.Sections.{Axioms}
use Rattle.cc_defs.specs.Signatures.{Signature}
use Rattle.cc_form.specs.Places.{position_sizes}
use Rattle.cc_form.specs.Queries.{IsQueryAt}
use Rattle.cc_general.specs.Accepted.{IsUnspentEnding}
use Rattle.cc_general.specs.declared.turn.GeneralTurn.{GeneralTurn}
use Rattle.cc_general.specs.declared.turn.GeneralTurn.TheVariants as events
use Rattle.cc_general.specs.declared.phase.Phase.{Phase}
use Rattle.cc_general.specs.declared.phase.Phase.TheVariants as phases
use Rattle.cc_general.specs.GeneralRuns.{WentThrough, GeneralEnding, Complete, Asked, NoneAtAll, SpentAmong, SpentOver, GeneralRun, IsFairGeneral, ReachesGeneralLimit, general_horizon, rows_shown}
use Rattle.cc_general.specs.GeneralTold.{ending_of}
use Rattle.cc_lists.specs.Sections.{section_lines}
use Rattle.cc_lists.specs.Subjects.{AreGoodAxioms}
use Rattle.cc_rivals.specs.Wides.{AreWideLawsFor, AreWideLawsOf, candidates_refusal}
use Rattle.cc_search.specs.Searches.{SearchView}
use Rattle.cc_search.specs.Searches as searches
use Rattle.cc_wide.specs.declared.ground.WideGroundLaw.{WideGroundLaw}
use Rattle.cc_wide.specs.WideLaws.{WideDescription, frame}
use Rattle.cc_wide.specs.WideLists.{candidate_axioms, rival_axioms}
use Rattle.cc_wide.specs.WideRules.{IsCandidate}

-- The signature, the laws, the query, how many histories are asked for and the budget of each search; the horizon that it is at,
-- how many histories of it were told, and what comes next.
pub record GeneralView : Type 0 where
  pub signature : Signature
  pub laws : List WideGroundLaw
  pub query : PlainGroundQuery
  pub count : Option ℕ
  pub budget : ℕ
  pub horizon : ℕ
  pub listed : ℕ
  pub phase : Phase

-- neither did the run end nor did a call fail: there is more to come
abbrev pub HasMore : GeneralView → Type 0
HasMore general = general.phase ≢ phases.Ended

-- nothing more is to come
abbrev pub IsOver : GeneralView → Type 0
IsOver general = general.phase ≡ phases.Ended

-- it is about this query of this description
pub record IsGeneralOf (general : GeneralView) (w : WideDescription) (q : Query) : Type 0 where
  pub laws : AreWideLawsOf general.signature general.laws w
  pub query : StandsForQuery general.query (frame w) q

-- ---- what a run leaves

-- The candidates of its horizon are searched, with these lines so far; the rows that were found were gone through.
pub record IsAmong (w : WideDescription) (q : Query) (budget horizon : ℕ) (told : List (List ℕ)) (search : SearchView) (lines : List LogLine) : Type 0 where
  pub within : candidates_refusal w q horizon ≡ None
  pub section : Section
  pub stands : searches.Stands (candidate_axioms w q horizon) None budget search section
  pub lines_are : lines ≡ section_lines section
  pub gone : WentThrough w q horizon (rows_of section) told

-- it is right that this comes next: a horizon is opened, or its candidates are searched, or the run has ended
abbrev pub Awaits : WideDescription → Query → GeneralView → GeneralRun → Phase → Type 0
Awaits w q general run phases.Opening = IsNone run.ending × (run.shown ≡ [])
Awaits w q general run (phases.Listing search lines) =
    IsNone run.ending × IsAmong w q general.budget general.horizon (rows_shown run) search lines.items
Awaits w q general run phases.Ended = IsSome run.ending

-- The run tells the truth, and the state is where it leaves it.
pub record Stands (w : WideDescription) (q : Query) (general : GeneralView) (run : GeneralRun) : Type 0 where
  pub fair : IsFairGeneral w q general.count general.budget run
  pub horizon : general.horizon ≡ general_horizon q run
  pub listed : general.listed ≡ length run.shown
  pub awaits : Awaits w q general run general.phase

-- the run that has told nothing
abbrev pub nothing_told : GeneralRun
nothing_told = record { empty = 0; shown = []; ending = None }

-- ---- what a call tells

-- a search is spent with these lines: that for a rival of this row, or that among the candidates
abbrev pub IsSpentWith : Option (List ℕ) → List LogLine → GeneralEnding → Type 0
IsSpentWith rivals_of lines Complete = ⊥
IsSpentWith rivals_of lines Asked = ⊥
IsSpentWith rivals_of lines NoneAtAll = ⊥
IsSpentWith rivals_of lines (SpentAmong section) = (rivals_of ≡ None) × (lines ≡ section_lines section)
IsSpentWith rivals_of lines (SpentOver row section) = (rivals_of ≡ Some row) × (lines ≡ section_lines section)

-- with this event a run goes on to the other one
abbrev pub GoesOnBy : Query → GeneralRun → GeneralTurn → GeneralRun → Type 0
GoesOnBy q run (events.NoHistory horizon) after =
    (horizon ≡ general_horizon q run) × (run.shown ≡ []) × (after ≡ record run { empty = run.empty + 1 })
GoesOnBy q run (events.History horizon number row lines) after =
    (horizon ≡ general_horizon q run) × (number ≡ length run.shown + 1)
    × ((section : Section) × (lines ≡ section_lines section)
    × (after ≡ record run { shown = run.shown ++ record { row = row; section = section } ∷ [] }))
GoesOnBy q run (events.Ended ending) after =
    (how : GeneralEnding) × IsUnspentEnding how × (ending ≡ ending_of (general_horizon q run) (length run.shown) how)
    × (after ≡ record run { ending = Some how })
GoesOnBy q run (events.Spent horizon listed rivals_of lines) after =
    (how : GeneralEnding) × IsSpentWith rivals_of lines how × (horizon ≡ general_horizon q run) × (listed ≡ length run.shown)
    × (after ≡ record run { ending = Some how })

-- Behind what a run told comes this event; with it the run still tells the truth, and the state is where it leaves it.
abbrev pub TellsNext : WideDescription → Query → GeneralView → GeneralRun → GeneralTurn → Type 0
TellsNext w q new run event = (after : GeneralRun) × IsNone run.ending × GoesOnBy q run event after × Stands w q new after

-- it is about the same
pub record IsSame (old new : GeneralView) : Type 0 where
  pub signature : new.signature ≡ old.signature
  pub laws : new.laws ≡ old.laws
  pub query : new.query ≡ old.query
  pub count : new.count ≡ old.count
  pub budget : new.budget ≡ old.budget

-- A refusal is the limit which the run comes to; or memory was wanting.
abbrev pub IsRightFault : GeneralView → Fault → Type 0
IsRightFault general faults.OutOfMemory = Unit {0}
IsRightFault general (faults.Refused refusal) = (w : WideDescription) (q : Query) (run : GeneralRun) →
    IsGeneralOf general w q → Stands w q general run → ReachesGeneralLimit w q general.count run refusal

-- there is more to come, but behind an ending
abbrev pub GoesOn : GeneralView → GeneralTurn → Type 0
GoesOn general (events.NoHistory horizon) = HasMore general
GoesOn general (events.History horizon number row lines) = HasMore general
GoesOn general (events.Ended ending) = IsOver general
GoesOn general (events.Spent horizon listed rivals_of lines) = IsOver general

-- It can be written: the horizon and the number are small, its row is one of the horizon, and its lines are formed.
pub record IsWritten (signature : Signature) (horizon number : ℕ) (row : Option (List ℕ)) (lines : List LogLine) : Type 0 where
  pub low : horizon ≤ most_steps
  pub few : number ≤ most_histories
  pub is_row : IfSome row (IsRow (position_sizes signature horizon))
  pub formed : AllByRecursion IsFormed lines

abbrev pub IsWritable : Signature → GeneralTurn → Type 0
IsWritable signature (events.NoHistory horizon) = horizon ≤ most_steps
IsWritable signature (events.History horizon number row lines) = IsWritten signature horizon number (Some row) lines
IsWritable signature (events.Ended ending) = Unit {0}
IsWritable signature (events.Spent horizon listed rivals_of lines) = IsWritten signature horizon listed rivals_of lines

-- where it is a history, the axioms of its section are clauses over their variables
abbrev pub IsGoodEvent : WideDescription → GeneralTurn → Type 0
IsGoodEvent w (events.NoHistory horizon) = Unit {0}
IsGoodEvent w (events.History horizon number row lines) = AreGoodAxioms (rival_axioms w horizon row)
IsGoodEvent w (events.Ended ending) = Unit {0}
IsGoodEvent w (events.Spent horizon listed rivals_of lines) = Unit {0}

-- ---- how much may still come: a number that each call lowers

abbrev pub left_at : Phase → ℕ
left_at phases.Opening = 300000000
left_at (phases.Listing search lines) = searches.left_of search
left_at phases.Ended = 0

abbrev pub left_of : GeneralView → ℕ
left_of general = 500000000 * (general.query.hi + 1 - general.horizon) + left_at general.phase

-- ---- what is always true of a run

-- The candidates of a horizon are searched, in formed lines so far: no more histories were told than rows were found.
pub record IsListing (signature : Signature) (laws : List WideGroundLaw) (query : PlainGroundQuery) (budget horizon listed : ℕ) (search : SearchView) (lines : List LogLine) : Type 0 where
  pub low : horizon ≤ query.hi
  pub small : horizon ≤ most_steps
  pub more : searches.HasMore search
  pub formed : AllByRecursion IsFormed lines
  pub axioms : Axioms
  pub section : Section
  pub stands : searches.Stands axioms None budget search section
  pub sizes : axioms.sizes ≡ position_sizes signature horizon
  pub few : listed ≤ length (rows_of section)
  pub are : (w : WideDescription) (q : Query) → AreWideLawsOf signature laws w → StandsForQuery query (frame w) q →
      (axioms ≡ candidate_axioms w q horizon) × Tells axioms (IsCandidate w q horizon)

-- it is ready for what comes next
abbrev pub IsReady : GeneralView → Phase → Type 0
IsReady general phases.Opening = (general.listed ≡ 0) × (general.horizon ≤ general.query.hi + 1)
IsReady general (phases.Listing search lines) =
    IfSome general.count (λ most. general.listed ≤ most)
    × IsListing general.signature general.laws general.query general.budget general.horizon general.listed search lines.items
IsReady general phases.Ended = Unit {0}

pub record IsState (general : GeneralView) : Type 0 where
  pub laws_fit : AreWideLawsFor general.signature general.laws
  pub most : general.query.hi ≤ most_steps
  pub least : general.query.lo ≤ general.horizon
  pub steps : (horizon : ℕ) → general.query.lo ≤ horizon → horizon ≤ general.query.hi → IsQueryAt general.signature horizon general.query
  pub count : IfSome general.count (λ most. 1 ≤ most)
  pub budget : general.budget ≤ 2000000
  pub ready : IsReady general general.phase
