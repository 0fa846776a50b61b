-- What export mode works on, and what is refused of it.
use Rattle.std.specs.Prelude.{◌≡◌, ◌⊎◌, ℕ, List, Option, Some, None, if◌then◌else◌, true}
use Rattle.cc_clauses.specs.Tells.{Tells}
use Rattle.cc_defs.specs.declared.refusal.Fault.{Fault}
use Rattle.cc_defs.specs.declared.refusal.Fault.TheVariants as faults
use Rattle.cc_defs.specs.declared.refusal.Refusal.{Refusal}
use Rattle.cc_defs.specs.declared.signature.Symbol.{Symbol}
use Rattle.cc_defs.specs.Description.{Description}
use Rattle.cc_defs.specs.GroundLaws.{PlainGroundQuery, StandsForQuery}
use Rattle.cc_defs.specs.Histories.{IsHistory}
use Rattle.cc_defs.specs.Resolved.{Query}
use Rattle.cc_defs.specs.Sections.{Axioms}
use Rattle.cc_laws.specs.Questions.{step_refusal, steps_refusal}
use Rattle.cc_lists.specs.Horizons.{refusal_at}
use Rattle.cc_run.specs.Modes.Exporting.{export_refusal, exported, horizon_refusal, is_outside}
use Rattle.cc_list.specs.Tasks.{query_named, refusal_without_place}
use Rattle.cc_words.specs.Words.{Text}

-- 15 where there is no such query; 16 at its place where it does not try the horizon; then the refusal of its steps
abbrev pub tried_refusal : List Symbol → Option Query → ℕ → Option Refusal
tried_refusal symbols None horizon = Some (refusal_without_place 15)
tried_refusal symbols (Some query) horizon = if is_outside query horizon then Some (step_refusal query) else steps_refusal symbols query

-- the ground query stands for the one that is named, and nothing of it is refused at the horizon
pub record IsAskedAt (d : Description) (queries : List Query) (label : Option Text) (horizon : ℕ) (made : PlainGroundQuery) : Type 0 where
  pub query : Query
  pub named_is : query_named label queries ≡ Some query
  pub unrefused : horizon_refusal d (Some query) horizon ≡ None
  pub stands : StandsForQuery made d query

-- these are the clauses of the query that is named, and nothing of these is refused
pub record IsExported (d : Description) (queries : List Query) (label : Option Text) (horizon : ℕ) (form : Axioms) : Type 0 where
  pub query : Query
  pub named_is : query_named label queries ≡ Some query
  pub unrefused : export_refusal d (Some query) horizon ≡ None
  pub within : refusal_at d query horizon true None ≡ None
  pub form_is : form ≡ exported d query horizon
  pub tells : Tells (exported d query horizon) (IsHistory d query horizon None)

-- the laws or the query are refused, or behind them the clauses; or memory was wanting
abbrev pub IsExportFault : Description → List Query → Option Text → ℕ → Fault → Type 0
IsExportFault d queries label horizon (faults.Refused refusal) =
    (export_refusal d (query_named label queries) horizon ≡ Some refusal)
    ⊎ ((q : Query) × (query_named label queries ≡ Some q) × (export_refusal d (Some q) horizon ≡ None)
    × (refusal_at d q horizon true None ≡ Some refusal))
IsExportFault d queries label horizon faults.OutOfMemory = Unit {0}
