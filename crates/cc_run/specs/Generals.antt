-- What general mode works on, and what it gives of a run over candidates.
use Rattle.std.specs.Prelude.{◌≡◌, ◌⊎◌, ℕ, ◌≤◌, List, [], Option, Some, None, IsNone, IsSome}
use Rattle.cc_defs.specs.declared.refusal.Fault.{Fault}
use Rattle.cc_defs.specs.declared.refusal.Fault.TheVariants as faults
use Rattle.cc_defs.specs.GroundLaws.{PlainGroundQuery, StandsForQuery}
use Rattle.cc_defs.specs.Limits.{most_steps}
use Rattle.cc_defs.specs.Resolved.{Query}
use Rattle.cc_defs.specs.Signatures.{Signature}
use Rattle.cc_describe.specs.declared.description.Described.{Described}
use Rattle.cc_form.specs.Queries.{IsQueryAt}
use Rattle.cc_general.specs.GeneralRuns.{GeneralRun}
use Rattle.cc_general.specs.GeneralTold.{general_log}
use Rattle.cc_rivals.specs.Wides.{AreWideLawsFor, AreWideLawsOf}
use Rattle.cc_arena.specs.GroundViews.{plain_ground_query}
use Rattle.cc_run.specs.declared.wide.PreparedWide.{PreparedWide}
use Rattle.cc_run.specs.Modes.Generally.{general_text, wide_asked_refusal}
use Rattle.cc_run.specs.Modes.Surely.{claim_refusal}
use Rattle.cc_list.specs.Tasks.{query_named}
use Rattle.cc_tell.specs.Givens.{Given}
use Rattle.cc_wide.specs.declared.ground.WideGroundLaw.{WideGroundLaw}
use Rattle.cc_wide.specs.WideLaws.{WideDescription, frame}
use Rattle.cc_words.specs.Words.{Text}

-- ---- what is worked on

-- laws and a query can be searched with
pub record AreWideSearchable (signature : Signature) (laws : List WideGroundLaw) (query : PlainGroundQuery) : Type 0 where
  pub laws_fit : AreWideLawsFor signature laws
  pub ordered : query.lo ≤ query.hi
  pub most : query.hi ≤ most_steps
  pub steps : (horizon : ℕ) → query.lo ≤ horizon → horizon ≤ query.hi → IsQueryAt signature horizon query
  pub claim : IsNone query.claim

-- they are those of a description and a query of it
pub record AreWideOf (signature : Signature) (laws : List WideGroundLaw) (query : PlainGroundQuery) (w : WideDescription) (q : Query) : Type 0 where
  pub laws_are : AreWideLawsOf signature laws w
  pub query_is : StandsForQuery query (frame w) q

-- this query is named, it has no claim, and nothing of it is refused
pub record IsWideUnclaimed (w : WideDescription) (queries : List Query) (label : Option Text) (q : Query) : Type 0 where
  pub query : query_named label queries ≡ Some q
  pub unrefused : wide_asked_refusal w (Some q) ≡ None
  pub claim : IsNone q.claim

-- the laws or the query are refused, or behind them its claim; or memory was wanting
abbrev pub IsWideFault : WideDescription → List Query → (label : Option Text) → Fault → Type 0
IsWideFault w queries label (faults.Refused refusal) =
    (wide_asked_refusal w (query_named label queries) ≡ Some refusal)
    ⊎ ((q : Query) × (query_named label queries ≡ Some q) × (wide_asked_refusal w (Some q) ≡ None) × IsSome q.claim × (refusal ≡ claim_refusal q))
IsWideFault w queries label faults.OutOfMemory = Unit {0}

-- ---- a run

-- what a run gives, with the header of its log
abbrev pub generally_given : WideDescription → Query → GeneralRun → Given
generally_given w q run = record { out = general_text w q run; err = []; log = general_log q run }

-- what is prepared stands for laws and a query of a description
abbrev pub StandsForWide : Described → PreparedWide → WideDescription → Query → Type 0
StandsForWide described prepared w q = AreWideOf described.sig prepared.laws (plain_ground_query prepared.query) w q

abbrev pub IsSearchableWide : Described → PreparedWide → Type 0
IsSearchableWide described prepared = AreWideSearchable described.sig prepared.laws (plain_ground_query prepared.query)
