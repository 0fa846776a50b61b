-- Export mode: the clause list of a query at a horizon, in the DIMACS form of CNF.
use Rattle.std.specs.Prelude.{◌≡◌, ◌⊎◌, ◌||◌, ℕ, Bool, true, false, if◌then◌else◌, nat_lt, List, [], Option, Some, None}
use Rattle.std.specs.Option.{option_or}
use Rattle.cc_clauses.specs.Tells.{Tells}
use Rattle.cc_defs.specs.declared.refusal.Refusal.{Refusal}
use Rattle.cc_defs.specs.Description.{Description}
use Rattle.cc_defs.specs.Histories.{IsHistory}
use Rattle.cc_defs.specs.Resolved.{Query}
use Rattle.cc_defs.specs.Runs.{axioms_of, range_of}
use Rattle.cc_defs.specs.Sections.{Axioms}
use Rattle.cc_describe.specs.declared.heads.Heads.TheVariants as heads
use Rattle.cc_describe.specs.Describing.{AreToOpen}
use Rattle.cc_describe.specs.FirstRefusal.{file_named}
use Rattle.cc_describe.specs.Places.{Files, Place, opened_in}
use Rattle.cc_dimacs.specs.CnfTexts.{export_of}
use Rattle.cc_ground.specs.Counting.{laws_refusal}
use Rattle.cc_laws.specs.Questions.{step_refusal}
use Rattle.cc_lists.specs.Horizons.{refusal_at}
use Rattle.cc_list.specs.Promises.{Promise, IsEndStatus}
use Rattle.cc_list.specs.Tasks.{AreRead, RefusesDescription, description_in, queries_in, query_named, query_refusal}
use Rattle.cc_run.specs.Naming.{named_from}
use Rattle.cc_list.specs.Wholes.{Whole}
use Rattle.cc_tell.specs.declared.status.Status.{Status}
use Rattle.cc_tell.specs.declared.status.Status.TheVariants as statuses
use Rattle.cc_tell.specs.Givens.{only_out}
use Rattle.cc_words.specs.Requests.{Exporting}
use Rattle.cc_words.specs.Words.{Text}

-- ---- what is refused

-- a horizon that the query does not try
abbrev pub is_outside : Query → ℕ → Bool
is_outside query horizon = nat_lt horizon (range_of query).0 || nat_lt (range_of query).1 horizon

-- 15 where there is no such query; 16 at its place where it does not try the horizon; then what is refused of any query
abbrev pub horizon_refusal : Description → Option Query → ℕ → Option Refusal
horizon_refusal d None horizon = query_refusal d None
horizon_refusal d (Some query) horizon = if is_outside query horizon then Some (step_refusal query) else query_refusal d (Some query)

-- that of the laws, then that of the query at the horizon
abbrev pub export_refusal : Description → Option Query → ℕ → Option Refusal
export_refusal d query horizon = option_or (laws_refusal d.universe d.laws) (horizon_refusal d query horizon)

-- Behind the description the refusal of its laws and the query comes,
pub record RefusesHorizon (files : Files) (exporting : Exporting) (refusal : Refusal) (file : Text) : Type 0 where
  pub places : List Place
  pub read : AreRead files exporting.file places
  pub refused : export_refusal (description_in places) (query_named exporting.query (queries_in places)) exporting.horizon ≡ Some refusal
  pub name : file ≡ file_named (opened_in places) refusal

-- the description and the query that are named, of which nothing is refused
pub record NamesHorizon (files : Files) (exporting : Exporting) (d : Description) (q : Query) : Type 0 where
  pub places : List Place
  pub read : AreRead files exporting.file places
  pub description : d ≡ description_in places
  pub query : query_named exporting.query (queries_in places) ≡ Some q
  pub unrefused : export_refusal d (Some q) exporting.horizon ≡ None

-- then the limit that the rules or the clauses of the horizon pass.
pub record RefusesClauses (files : Files) (exporting : Exporting) (refusal : Refusal) (file : Text) : Type 0 where
  pub description : Description
  pub query : Query
  pub named : NamesHorizon files exporting description query
  pub passed : refusal_at description query exporting.horizon true None ≡ Some refusal
  pub name : file ≡ []

abbrev pub RefusesExporting : Files → Exporting → Refusal → Text → Type 0
RefusesExporting files exporting refusal file =
    RefusesDescription files (named_from exporting) refusal file
    ⊎ (RefusesHorizon files exporting refusal file ⊎ RefusesClauses files exporting refusal file)

-- ---- what is given

-- the axioms of the horizon, with the claim denied where there is one
abbrev pub exported : Description → Query → ℕ → Axioms
exported d q horizon = axioms_of d q None false horizon

-- Their text is given to Out; they have the histories of the horizon as their rows, each with exactly one assignment.
pub record Exports (exporting : Exporting) (files : Files) (whole : Whole) : Type 0 where
  pub description : Description
  pub query : Query
  pub named : NamesHorizon files exporting description query
  pub within : refusal_at description query exporting.horizon true None ≡ None
  pub given : whole.given ≡ only_out (export_of exporting.horizon (record {
    variables = (exported description query exporting.horizon).variables;
    clauses = (exported description query exporting.horizon).clauses;
  }))
  pub tells : Tells (exported description query exporting.horizon) (IsHistory description query exporting.horizon None)
  pub begun : whole.begun ≡ false
  pub ends : whole.ends ≡ Some statuses.Right

-- it says of nothing that there is none
abbrev pub MayEndExporting : Status → Type 0
MayEndExporting statuses.Not = ⊥
MayEndExporting statuses.Spent = ⊥
MayEndExporting statuses.Asked = ⊥
MayEndExporting status = IsEndStatus status

abbrev pub exporting_promise : Exporting → Promise
exporting_promise exporting = record {
  Refuses = λ files. RefusesExporting files exporting;
  Gives = Exports exporting;
  Opens = λ files. AreToOpen heads.Definite files exporting.file;
  begins = λ _. None;
  MayEnd = MayEndExporting;
}
