-- A run on every horizon, by induction: what it tells, and which runs tell the truth.
use Rattle.std.specs.Prelude.{◌≡◌, ℕ, ◌+◌, ◌<◌, ◌≤◌, List, [], ◌∷◌, ◌++◌, length, Option, Some, None, IsSome, IsNone, IfSome, MatchOption}
use Rattle.cc_defs.specs.declared.log.EndWord.TheVariants as words
use Rattle.cc_defs.specs.declared.refusal.Refusal.{Refusal}
use Rattle.cc_defs.specs.Description.{Description}
use Rattle.cc_defs.specs.Histories.{AreFirst}
use Rattle.cc_defs.specs.Limits.{most_steps}
use Rattle.cc_defs.specs.Resolved.{Query}
use Rattle.cc_defs.specs.Runs.{EndsWith, HasNone, HasSome, Section, TellsRows, optional, range_of, rows_of}
use Rattle.cc_defs.specs.Signatures.{Signature}
use Rattle.cc_arena.specs.declared.ground_laws.GroundLaw.{GroundLaw}
use Rattle.cc_defs.specs.GroundLaws.{PlainGroundQuery, StandsForQuery}
use Rattle.cc_form.specs.Queries.{IsQueryAt}
use Rattle.cc_induction.specs.Induction.{Never, step_query}
use Rattle.cc_silent.specs.ForeverLogs.{IsUnder, axioms_under, number_in, query_under, refusal_under}
use Rattle.cc_silent.specs.declared.forever.ForeverHeading.{ForeverHeading}
use Rattle.cc_silent.specs.declared.forever.ForeverHeading.TheVariants as headings
use Rattle.cc_theory.specs.Theories.{AreLawsFor, AreLawsOf}

-- ---- the shape of what is told

-- The induction holds, as this section shows; the next horizon has a history, the least of which is this; the range is used up; or
-- this search was spent.
pub data ForeverEnding : Type 0 where
  Proved : Section → ForeverEnding
  Met : (row : List ℕ) → ForeverEnding
  Unsettled : ForeverEnding
  Spent : Section → ForeverEnding

-- A run so far: the horizons, from the least one on, that have no history and over as many as which the induction fails, each by the
-- section that shows that it has none; the horizon behind them, where it has none either and the induction is still to be made; the
-- least history of the step of the last induction that failed; and the ending, where it has come.
pub record ForeverRun : Type 0 where
  pub failed : List Section
  pub next : Option Section
  pub example : Option (List ℕ)
  pub ending : Option ForeverEnding

-- the horizons that are told to have no history
abbrev pub bases : ForeverRun → List Section
bases run = run.failed ++ optional run.next

-- how many horizons were done with, and the one behind them
abbrev pub steps_failed : ForeverRun → ℕ
steps_failed run = length run.failed

abbrev pub forever_horizon : Query → ForeverRun → ℕ
forever_horizon q run = (range_of q).0 + steps_failed run

-- what is searched next: a history of the horizon, or one of the step over as many horizons as have none
abbrev pub sought_behind : Query → (failed : ℕ) → Option Section → ForeverHeading
sought_behind q failed None = headings.Horizon ((range_of q).0 + failed)
sought_behind q failed (Some section) = headings.Steps (failed + 1)

abbrev pub sought_next : Query → ForeverRun → ForeverHeading
sought_next q run = sought_behind q (steps_failed run) run.next

-- ---- runs that tell the truth

-- a section that looks for one history, of a horizon or of a step, and tells none; its axioms pass no limit
pub record LooksFor (d : Description) (q : Query) (budget : ℕ) (heading : ForeverHeading) (section : Section) : Type 0 where
  pub within : refusal_under d q heading ≡ None
  pub tells : TellsRows (IsUnder d q heading) (axioms_under d q heading) (Some 1) budget section
  pub silent : rows_of section ≡ []

-- one that ends with `empty`: there is no history
pub record Refutes (d : Description) (q : Query) (budget : ℕ) (heading : ForeverHeading) (section : Section) : Type 0 where
  pub looks : LooksFor d q budget heading section
  pub ends : EndsWith words.Empty section

-- a row is the least history of a horizon or of a step, whose axioms pass no limit
pub record IsLeast (d : Description) (q : Query) (heading : ForeverHeading) (row : List ℕ) : Type 0 where
  pub within : refusal_under d q heading ≡ None
  pub first : AreFirst d (query_under q heading) (number_in heading) None (row ∷ [])

-- these horizons have no history, and the step over as many as there are up to each has one
abbrev pub HaveFailed : Description → Query → (budget : ℕ) → (before : ℕ) → List Section → Type 0
HaveFailed d q budget before [] = Unit {0}
HaveFailed d q budget before (section ∷ sections) =
    Refutes d q budget (headings.Horizon ((range_of q).0 + before)) section
    × (refusal_under d q (headings.Steps (before + 1)) ≡ None) × HasSome d (step_query q (before + 1)) (before + 1)
    × HaveFailed d q budget (before + 1) sections

-- a further horizon may be looked at
pub record IsInReach (q : Query) (failed : ℕ) : Type 0 where
  pub horizon : (range_of q).0 + failed ≤ (range_of q).1
  pub steps : failed < most_steps

-- an ending comes only then
abbrev pub MayEndForever : Description → Query → (budget : ℕ) → ForeverRun → ForeverEnding → Type 0
MayEndForever d q budget run (Proved section) = IsSome run.next × Refutes d q budget (headings.Steps (steps_failed run + 1)) section
MayEndForever d q budget run (Met row) =
    IsNone run.next × IsInReach q (steps_failed run) × IsLeast d q (headings.Horizon (forever_horizon q run)) row
MayEndForever d q budget run Unsettled = IsNone run.next × (IsInReach q (steps_failed run) → ⊥)
MayEndForever d q budget run (Spent section) =
    (IsNone run.next → IsInReach q (steps_failed run)) × LooksFor d q budget (sought_next q run) section × EndsWith words.Spent section

-- where a run stands, a search is made: for a history of a horizon of the range, or for one of a step
pub record IsToSearch (q : Query) (run : ForeverRun) : Type 0 where
  pub open_yet : IsNone run.ending
  pub reach : IsNone run.next → IsInReach q (steps_failed run)

-- the run comes to a search whose axioms pass this limit
pub record ReachesForeverLimit (d : Description) (q : Query) (run : ForeverRun) (refusal : Refusal) : Type 0 where
  pub search : IsToSearch q run
  pub limit : refusal_under d q (sought_next q run) ≡ Some refusal

-- A run tells the truth: horizons that are told to have no history have none, the induction is said to fail only where it does, with
-- the least history of its step, and the run ends only as it may.
pub record IsFairForever (d : Description) (q : Query) (budget : ℕ) (run : ForeverRun) : Type 0 where
  pub failed : HaveFailed d q budget 0 run.failed
  pub next : IfSome run.next (λ section. IsInReach q (steps_failed run) × Refutes d q budget (headings.Horizon (forever_horizon q run)) section)
  pub within : (steps_failed run ≤ most_steps) × (forever_horizon q run ≤ (range_of q).1 + 1)
  pub example : MatchOption run.example (steps_failed run ≡ 0) (λ row. (1 ≤ steps_failed run) × IsLeast d q (headings.Steps (steps_failed run)) row)
  pub ending : IfSome run.ending (MayEndForever d q budget run)

-- ---- what it shows

-- A fair run whose induction holds proves that no horizon has a history, without an end.
abbrev pub FairRunsProveNever : Type 0
FairRunsProveNever = (signature : Signature) (laws : List GroundLaw) (query : PlainGroundQuery) (d : Description) (q : Query) (budget : ℕ) (run : ForeverRun) →
    AreLawsFor signature laws → AreLawsOf signature laws d → StandsForQuery query d q → IsQueryAt signature query.lo query →
    IsFairForever d q budget run → (section : Section) → run.ending ≡ Some (Proved section) → Never d q

-- A fair run tells of a history only at the first horizon that has one; and where it does not settle, no horizon up to the greatest one
-- of the range, or of so many, has one.
abbrev pub HasNoneBefore : Description → Query → (end : ℕ) → Type 0
HasNoneBefore d q end = (horizon : ℕ) → (range_of q).0 ≤ horizon → horizon < end → HasNone d q horizon

abbrev pub FairRunsTellTheFirst : Type 0
FairRunsTellTheFirst = (d : Description) (q : Query) (budget : ℕ) (run : ForeverRun) → IsFairForever d q budget run →
    HasNoneBefore d q ((range_of q).0 + length (bases run))
