-- How a search of models is told, step by step.
use Rattle.std.specs.Prelude.{◌≡◌, ◌≤◌, ◌⊎◌, ◌+◌, ℕ, [], List, length, false, Option, Some, None, IsNone, IfOk, Result}
use Rattle.cc_clauses.specs.RowsOf.{IsRowOf}
use Rattle.cc_defs.specs.declared.log.EndWord.{EndWord}
use Rattle.cc_defs.specs.declared.log.Version.{Version}
use Rattle.cc_defs.specs.declared.refusal.LimitAt.TheVariants as limits
use Rattle.cc_defs.specs.Limits.{most_clauses, most_cnf_variables, most_histories, most_variables}
use Rattle.cc_defs.specs.LogVersions.{counts_in, log_in}
use Rattle.cc_defs.specs.Refusals.{past}
use Rattle.cc_defs.specs.Runs.{Section, TellsRows, rows_of, section_events}
use Rattle.cc_defs.specs.Sections.{Axioms}
use Rattle.cc_judge.specs.Single.{subject_over}
use Rattle.cc_ports.specs.Moments.{Moment}
use Rattle.cc_lists.specs.Subjects.{AreGoodAxioms, lines_of}
use Rattle.cc_search.specs.Searches.{SearchView, Stands, TellsTooMany}
use Rattle.cc_tell.specs.declared.status.Status.{Status}
use Rattle.cc_tell.specs.declared.status.Status.TheVariants as statuses
use Rattle.cc_tell.specs.declared.status.Stop.{Stop}
use Rattle.cc_tell_modes.specs.ModelTexts.{models_status, models_text}
use Rattle.cc_tell.specs.ErrLines.{refusal_text}
use Rattle.cc_tell.specs.Steps.{Step}
use Rattle.cc_tell.specs.Givens.{Given, joined}

-- what is given of a section: its models, and its log
abbrev pub told_of : Axioms → Version → Section → Given
told_of axioms version section = record {
  out = models_text section;
  err = [];
  log = log_in version (counts_in (subject_over axioms)) (lines_of (section_events false 0 section));
}

-- clauses that a section may have, within a budget
pub record AreWithin (axioms : Axioms) (budget : ℕ) : Type 0 where
  pub good : AreGoodAxioms axioms
  pub variables : axioms.variables ≤ most_variables
  pub few : length axioms.clauses ≤ most_clauses
  pub short : length axioms.sizes ≤ most_cnf_variables
  pub spent : budget ≤ 2000000

-- The search has told this section: the next clause has this number, and so many models were listed.
pub record AreAt (axioms : Axioms) (count : Option ℕ) (budget : ℕ) (section : Section) (own listed : ℕ) (search : SearchView) : Type 0 where
  pub within : AreWithin axioms budget
  pub stands : Stands axioms count budget search section
  pub own_is : own ≡ length axioms.clauses + 1 + length section.steps
  pub listed_is : listed ≡ length (rows_of section)

-- it has told some section
abbrev pub IsAt : (own listed : ℕ) → SearchView → Type 0
IsAt own listed search =
    (axioms : Axioms) × (count : Option ℕ) × (budget : ℕ) × (section : Section) × AreAt axioms count budget section own listed search

-- how the listing of a section ends: with its end word, or where there are too many models; or it has not ended yet
abbrev pub EndsListing : Axioms → Section → (err : List ℕ) → Option Status → Type 0
EndsListing axioms section err None = err ≡ []
EndsListing axioms section err (Some status) =
    ((word : EndWord) × (section.word ≡ Some word) × (err ≡ []) × (status ≡ models_status (length (rows_of section)) word))
    ⊎ (IsNone section.word × TellsTooMany axioms section × (err ≡ refusal_text (past limits.Histories) []) × (status ≡ statuses.Refused))

-- Behind what was told before, a step tells more, up to this section.
pub record TellsMore {X : Type 0} (axioms : Axioms) (version : Version) (count : Option ℕ) (budget : ℕ) (before : Given) (section : Section) (ends : Option Status) (old new : Moment) (result : Result X Stop) : Type 0 where
  pub tells : TellsRows (IsRowOf axioms.sizes axioms.clauses) axioms count budget section
  pub few : length (rows_of section) ≤ most_histories
  pub err : List ℕ
  pub how : EndsListing axioms section err ends
  pub given : Given
  pub grows : joined before given ≡ record (told_of axioms version section) { err = err }
  pub step : Step given old new result

-- One find more is told: the last one, or the search goes on.
pub record TellsFind (axioms : Axioms) (version : Version) (count : Option ℕ) (budget : ℕ) (section : Section) (own listed : ℕ) (search : SearchView) (old new : Moment) (result : Result (Option Status) Stop) : Type 0 where
  pub next : Section
  pub ends : Option Status
  pub more : TellsMore axioms version count budget (told_of axioms version section) next ends old new result
  pub ended : IfOk result (λ status. ends ≡ status)
  pub keeps : IfOk result (λ status. IsNone status → AreAt axioms count budget next own listed search)

-- The whole listing is told behind that.
pub record TellsListing (axioms : Axioms) (version : Version) (count : Option ℕ) (budget : ℕ) (before : Given) (old new : Moment) (result : Result Status Stop) : Type 0 where
  pub section : Section
  pub ends : Option Status
  pub more : TellsMore axioms version count budget before section ends old new result
  pub ended : IfOk result (λ status. ends ≡ Some status)
