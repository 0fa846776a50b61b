-- The walk over the candidates of a horizon: what it knows, and what it comes to.
use Rattle.std.specs.Prelude.{◌≡◌, ◌⊎◌, ℕ, ◌+◌, ◌<◌, List, [], ◌∷◌, ◌++◌, Option, Some, None}
use Rattle.std.specs.Global.{Vec}
use Rattle.std.specs.List.{AllByRecursion}
use Rattle.cc_clauses.specs.Tells.{Tells}
use Rattle.cc_defs.specs.declared.log.EndWord.{EndWord}
use Rattle.cc_defs.specs.declared.log.EndWord.TheVariants as words
use Rattle.cc_defs.specs.declared.log.LogLine.{LogLine}
use Rattle.cc_defs.specs.declared.log.LogLine.TheVariants as said
use Rattle.cc_defs.specs.declared.refusal.Fault.{Fault}
use Rattle.cc_defs.specs.declared.refusal.Fault.TheVariants as faults
use Rattle.cc_defs.specs.declared.refusal.LimitAt.TheVariants as limits
use Rattle.cc_defs.specs.declared.refusal.Refusal.{Refusal}
use Rattle.cc_defs.specs.GroundLaws.{StandsForQuery}
use Rattle.cc_defs.specs.Histories.{AreFirstOf}
use Rattle.cc_defs.specs.LogTexts.{IsFormed}
use Rattle.cc_defs.specs.Refusals.{past}
use Rattle.cc_defs.specs.Resolved.{Query}
use Rattle.cc_defs.specs.Rows.{IsRow}
use Rattle.cc_defs.specs.Runs.{EndsWith, Section, Step, TellsRows, rows_of}
use Rattle.cc_defs.specs.Sections.{Axioms}
use Rattle.cc_form.specs.Places.{position_sizes}
use Rattle.cc_general.specs.declared.turn.GeneralTurn.{GeneralTurn}
use Rattle.cc_general.specs.declared.halt.Halt.{Halt}
use Rattle.cc_general.specs.declared.halt.Halt.TheVariants as halts
use Rattle.cc_general.specs.declared.phase.Phase.TheVariants as phases
use Rattle.cc_general.specs.GeneralRuns.{ComesNext, GeneralRun, HasManyCandidates, LooksForRival, WentThrough}
use Rattle.cc_general.specs.Generals.{GeneralView, GoesOn, IsAmong, IsGeneralOf, IsGoodEvent, IsListing, IsWritable, Stands, TellsNext, left_of}
use Rattle.cc_lists.specs.Sections.{open_section, rows_in, section_lines, section_of}
use Rattle.cc_lists.specs.Subjects.{AreGoodAxioms}
use Rattle.cc_rivals.specs.Wides.{AreWideLawsOf, candidates_refusal, rivals_refusal}
use Rattle.cc_search.specs.declared.least.Outcome.{Outcome}
use Rattle.cc_search.specs.declared.least.Outcome.TheVariants as outcomes
use Rattle.cc_search.specs.Searches.{SearchView}
use Rattle.cc_search.specs.Searches as searches
use Rattle.cc_wide.specs.WideLaws.{WideDescription, frame}
use Rattle.cc_wide.specs.WideLists.{candidate_axioms, rival_axioms}
use Rattle.cc_wide.specs.WideRules.{IsCandidate, IsRival}

-- the axioms of a horizon's candidates, which pass no limit and whose rows these are
pub record IsFormOf (w : WideDescription) (q : Query) (horizon : ℕ) (form : Axioms) : Type 0 where
  pub axioms : form ≡ candidate_axioms w q horizon
  pub tells : Tells form (IsCandidate w q horizon)
  pub within : candidates_refusal w q horizon ≡ None

-- ---- a candidate and its rivals

-- the section that looks for a rival of a row, with these lines, ends so
pub record IsShownBy (w : WideDescription) (budget horizon : ℕ) (row : List ℕ) (word : EndWord) (lines : List LogLine) : Type 0 where
  pub section : Section
  pub looks : LooksForRival w budget horizon row section
  pub ends : EndsWith word section
  pub lines_are : lines ≡ section_lines section
  pub good : AreGoodAxioms (rival_axioms w horizon row)

-- what comes of the search for a rival
abbrev pub IsSought : WideDescription → (budget horizon : ℕ) → List ℕ → Outcome → Type 0
IsSought w budget horizon row (outcomes.Found other) = IsRival w horizon row other × (rivals_refusal w horizon row ≡ None)
IsSought w budget horizon row (outcomes.Empty lines) = IsShownBy w budget horizon row words.Empty lines
IsSought w budget horizon row (outcomes.Spent lines) = IsShownBy w budget horizon row words.Spent lines

-- its lines are formed
abbrev pub IsFormedOutcome : Outcome → Type 0
IsFormedOutcome (outcomes.Found other) = Unit {0}
IsFormedOutcome (outcomes.Empty lines) = AllByRecursion IsFormed lines
IsFormedOutcome (outcomes.Spent lines) = AllByRecursion IsFormed lines

-- with a candidate that has a rival the walk goes on
abbrev pub halt_of : List ℕ → Outcome → Option Halt
halt_of row (outcomes.Found other) = None
halt_of row (outcomes.Empty lines) = Some (halts.Alone row lines)
halt_of row (outcomes.Spent lines) = Some (halts.SpentOver row lines)

-- what the walk comes to with a row
pub record IsJudged (general : GeneralView) (row : List ℕ) (halt : Option Halt) : Type 0 where
  pub outcome : Outcome
  pub halt_is : halt ≡ halt_of row outcome
  pub formed : IsFormedOutcome outcome
  pub sought : (w : WideDescription) → AreWideLawsOf general.signature general.laws w → IsSought w general.budget general.horizon row outcome

-- ---- where the walk is, for a description, a query and the histories that were told

-- This candidate was found behind these lines, and is not judged yet.
pub record IsFound (w : WideDescription) (q : Query) (budget horizon : ℕ) (told : List (List ℕ)) (search : SearchView) (lines : List LogLine) (row : List ℕ) : Type 0 where
  pub within : candidates_refusal w q horizon ≡ None
  pub steps : List Step
  pub stands : searches.Stands (candidate_axioms w q horizon) None budget search (section_of steps (Some row) None)
  pub first : AreFirstOf (IsCandidate w q horizon) (rows_in steps ++ row ∷ [])
  pub lines_are : lines ≡ section_lines (open_section steps)
  pub gone : WentThrough w q horizon (rows_in steps) told

-- the search among the candidates has ended so, with these lines before the end line
pub record IsClosed (w : WideDescription) (q : Query) (budget horizon : ℕ) (told : List (List ℕ)) (lines : List LogLine) (word : EndWord) : Type 0 where
  pub within : candidates_refusal w q horizon ≡ None
  pub section : Section
  pub tells : TellsRows (IsCandidate w q horizon) (candidate_axioms w q horizon) None budget section
  pub ends : EndsWith word section
  pub lines_are : lines ++ said.End word ∷ [] ≡ section_lines section
  pub gone : WentThrough w q horizon (rows_of section) told

abbrev pub HaltsAt : WideDescription → Query → (budget horizon : ℕ) → (told : List (List ℕ)) → SearchView → List LogLine → Halt → Type 0
HaltsAt w q budget horizon told search lines (halts.Alone row shown) =
    IsFound w q budget horizon told search lines row × IsShownBy w budget horizon row words.Empty shown
HaltsAt w q budget horizon told search lines (halts.SpentOver row spent) =
    IsFound w q budget horizon told search lines row × IsShownBy w budget horizon row words.Spent spent
HaltsAt w q budget horizon told search lines halts.Exhausted = IsClosed w q budget horizon told lines words.Empty
HaltsAt w q budget horizon told search lines halts.SpentAmong = IsClosed w q budget horizon told lines words.Spent

abbrev pub ComesTo : WideDescription → Query → (budget horizon : ℕ) → (told : List (List ℕ)) → SearchView → List LogLine → Option Halt → Type 0
ComesTo w q budget horizon told search lines None = IsAmong w q budget horizon told search lines
ComesTo w q budget horizon told search lines (Some halt) = HaltsAt w q budget horizon told search lines halt

-- ---- what the walk gives

abbrev pub IsListingAt : GeneralView → (listed : ℕ) → SearchView → List LogLine → Type 0
IsListingAt general listed search lines =
    IsListing general.signature general.laws general.query general.budget general.horizon listed search lines

-- it is ready for what comes next
abbrev pub IsReadyAt : GeneralView → SearchView → List LogLine → Option Halt → Type 0
IsReadyAt general search lines None = IsListingAt general general.listed search lines
IsReadyAt general search lines (Some (halts.Alone row shown)) =
    IsListingAt general (general.listed + 1) search lines × IsRow (position_sizes general.signature general.horizon) row × AllByRecursion IsFormed shown
    × ((w : WideDescription) → AreWideLawsOf general.signature general.laws w → AreGoodAxioms (rival_axioms w general.horizon row))
IsReadyAt general search lines (Some (halts.SpentOver row spent)) =
    IsRow (position_sizes general.signature general.horizon) row × AllByRecursion IsFormed spent
IsReadyAt general search lines (Some halts.Exhausted) = Unit {0}
IsReadyAt general search lines (Some halts.SpentAmong) = AllByRecursion IsFormed lines

-- from a search and its lines so far it has come to others
pub record Comes (general : GeneralView) (old : SearchView) (before : List LogLine) (new : SearchView) (after : List LogLine) (halt : Option Halt) : Type 0 where
  pub tells : (w : WideDescription) (q : Query) (told : List (List ℕ)) → AreWideLawsOf general.signature general.laws w → StandsForQuery general.query (frame w) q →
      IsAmong w q general.budget general.horizon told old before → ComesTo w q general.budget general.horizon told new after halt
  pub ready : IsReadyAt general new after halt
  pub less : searches.left_of new < searches.left_of old

-- the limit of the next candidate's rivals, or that of candidates
abbrev pub IsWalkLimit : WideDescription → Query → (horizon : ℕ) → (told : List (List ℕ)) → Refusal → Type 0
IsWalkLimit w q horizon told refusal =
    ((row : List ℕ) × ComesNext w q horizon told row × (rivals_refusal w horizon row ≡ Some refusal))
    ⊎ ((refusal ≡ past limits.Histories) × HasManyCandidates w q horizon told)

abbrev pub IsWalkFault : GeneralView → SearchView → List LogLine → Fault → Type 0
IsWalkFault general search lines faults.OutOfMemory = Unit {0}
IsWalkFault general search lines (faults.Refused refusal) = (w : WideDescription) (q : Query) (told : List (List ℕ)) →
    AreWideLawsOf general.signature general.laws w → StandsForQuery general.query (frame w) q →
    IsAmong w q general.budget general.horizon told search lines → IsWalkLimit w q general.horizon told refusal

-- ---- what a call gives

pub record Gives (old new : GeneralView) (event : GeneralTurn) : Type 0 where
  pub tells : (w : WideDescription) (q : Query) (run : GeneralRun) → IsGeneralOf old w q → Stands w q old run → TellsNext w q new run event
  pub less : left_of new < left_of old
  pub goes : GoesOn new event
  pub writable : IsWritable old.signature event
  pub good : (w : WideDescription) (q : Query) → IsGeneralOf old w q → IsGoodEvent w event

-- from some search and its lines the walk has come to this
abbrev pub HasCome : GeneralView → SearchView → List LogLine → Halt → Type 0
HasCome general search lines halt =
    (before : SearchView) × (begun : Vec LogLine)
    × IsListingAt general general.listed before begun.items × Comes general before begun.items search lines (Some halt)

-- From whichever search it has come to it, this is what the call gives.
abbrev pub IsToldOf : GeneralView → SearchView → List LogLine → Halt → GeneralView → GeneralTurn → Type 0
IsToldOf old search lines halt new event = (before : SearchView) (begun : Vec LogLine) → IsListingAt old old.listed before begun.items →
    Comes old before begun.items search lines (Some halt) → Gives (record old { phase = phases.Listing before begun }) new event
