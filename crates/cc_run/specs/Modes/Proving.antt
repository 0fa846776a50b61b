-- Forever mode: whether a claim holds, or there is no history, at every horizon.
use Rattle.std.specs.Prelude.{◌≡◌, ◌⊎◌, ◌+◌, ℕ, Bool, if◌then◌else◌, List, [], ◌∷◌, ◌++◌, flat_map, length, codes, Option, Some, None, is_some}
use Rattle.cc_check.specs.declared.silent.SilentVerdict.TheVariants as verdicts
use Rattle.cc_check.specs.Silent.{IsSilentVerdict}
use Rattle.cc_defs.specs.declared.refusal.Refusal.{Refusal}
use Rattle.cc_defs.specs.Description.{Description}
use Rattle.cc_defs.specs.Resolved.{Query}
use Rattle.cc_defs.specs.Runs.{Section, range_of}
use Rattle.cc_describe.specs.declared.heads.Heads.TheVariants as heads
use Rattle.cc_describe.specs.Describing.{AreToOpen}
use Rattle.cc_describe.specs.Places.{Files, Place}
use Rattle.cc_forever.specs.ForeverRuns.{ForeverEnding, ForeverRun, HasNoneBefore, IsFairForever, Met, Proved, ReachesForeverLimit, Spent, Unsettled, bases}
use Rattle.cc_forever.specs.ForeverTold.{ForeverTold, FailsOver, FoundAt, HoldsOver, LeftOpen, NoneAt, SpentIn, forever_log, forever_told}
use Rattle.cc_induction.specs.Induction.{Never}
use Rattle.cc_list.specs.Promises.{Promise, IsEndStatus}
use Rattle.cc_list.specs.Tasks.{AreRead, Named, RefusesNamed, asked_refusal, description_in, queries_in, query_named}
use Rattle.cc_list.specs.Wholes.{Whole}
use Rattle.cc_silent.specs.ForeverLogs.{forever_subject}
use Rattle.cc_tell.specs.declared.status.Status.{Status}
use Rattle.cc_tell.specs.declared.status.Status.TheVariants as statuses
use Rattle.cc_tell.specs.ErrLines.{refusal_text}
use Rattle.cc_tell_modes.specs.ForeverTexts.{found_line, met_line, none_line, of_steps, proved_line, row_lines}
use Rattle.cc_words.specs.Requests.{Proving}

abbrev pub named_to_prove : Proving → Named
named_to_prove proving = record { file = proving.file; query = proving.query; after = None }

-- the description and the query that are named, of which nothing is refused
pub record NamesQuery (files : Files) (named : Named) (d : Description) (q : Query) : Type 0 where
  pub places : List Place
  pub read : AreRead files named.file places
  pub description : d ≡ description_in places
  pub query : query_named named.query (queries_in places) ≡ Some q
  pub unrefused : asked_refusal d (Some q) ≡ None

-- ---- what is printed of a run, of a query with a claim or without one, with this least horizon

abbrev pub forever_line : Description → (claim : Bool) → (least : ℕ) → ForeverTold → List ℕ
forever_line d claim least (NoneAt horizon section) = none_line claim horizon
forever_line d claim least (FailsOver steps) = of_steps steps (codes "fails")
forever_line d claim least (HoldsOver steps section) = of_steps steps (codes "holds") ++ proved_line claim least
forever_line d claim least (FoundAt horizon row) = found_line claim horizon ++ row_lines d horizon row ++ met_line claim
forever_line d claim least (LeftOpen steps row) = of_steps steps (codes "example") ++ row_lines d steps row ++ (codes "not settled" ++ 10 ∷ [])
forever_line d claim least (SpentIn heading section) = codes "budget spent" ++ 10 ∷ []

abbrev pub forever_text : Description → Query → ForeverRun → List ℕ
forever_text d q run = flat_map (forever_line d (is_some q.claim) (range_of q).0) (forever_told q run)

-- ---- what is given

-- the status of a run that ends so: of a claim it is right that it holds, else that there is a history; an open question has that of a
-- spent budget
abbrev pub proving_status : (claim : Bool) → ForeverEnding → Status
proving_status claim (Proved section) = if claim then statuses.Right else statuses.Not
proving_status claim (Met row) = if claim then statuses.Not else statuses.Right
proving_status claim Unsettled = statuses.Spent
proving_status claim (Spent section) = statuses.Spent

-- how it ends: with its ending, or with the limit that the search passes which it comes to; or it has not ended yet
abbrev pub EndsForever : Description → Query → ForeverRun → (err : List ℕ) → Option Status → Type 0
EndsForever d q run err None = err ≡ []
EndsForever d q run err (Some status) =
    ((ending : ForeverEnding) × (run.ending ≡ Some ending) × (err ≡ []) × (status ≡ proving_status (is_some q.claim) ending))
    ⊎ ((refusal : Refusal) × ReachesForeverLimit d q run refusal × (err ≡ refusal_text refusal []) × (status ≡ statuses.Refused))

-- A fair run is told, with the log of the horizons that have no history and of the induction that holds.
pub record TellsForever (proving : Proving) (files : Files) (whole : Whole) : Type 0 where
  pub description : Description
  pub query : Query
  pub named : NamesQuery files (named_to_prove proving) description query
  pub run : ForeverRun
  pub fair : IsFairForever description query proving.budget run
  pub out : whole.given.out ≡ forever_text description query run
  pub log : whole.given.log ≡ forever_log query run
  -- no horizon that is told to have none has a history, nor one before it
  pub none : HasNoneBefore description query ((range_of query).0 + length (bases run))
  -- where the induction is told to hold, no horizon has one, without an end, and a checker accepts the log
  pub never : (section : Section) → run.ending ≡ Some (Proved section) → Never description query
  pub accepted : (section : Section) → run.ending ≡ Some (Proved section) →
      IsSilentVerdict (forever_subject description query) whole.given.log (verdicts.Accepted (length (bases run) + 1))
  pub begun : whole.begun ≡ is_some proving.log
  pub ends : EndsForever description query run whole.given.err whole.ends

abbrev pub MayEndProving : Status → Type 0
MayEndProving statuses.Asked = ⊥
MayEndProving status = IsEndStatus status

abbrev pub proving_promise : Proving → Promise
proving_promise proving = record {
  Refuses = λ files. RefusesNamed files (named_to_prove proving);
  Gives = TellsForever proving;
  Opens = λ files. AreToOpen heads.Definite files proving.file;
  begins = λ _. proving.log;
  MayEnd = MayEndProving;
}
