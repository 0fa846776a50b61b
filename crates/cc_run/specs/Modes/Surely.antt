-- Sure mode: what is certain, possible and impossible at the first horizon of a query that has a history.
use Rattle.std.specs.Prelude.{◌≡◌, ◌⊎◌, ℕ, List, [], ◌++◌, flat_map, length, codes, decimal, Option, Some, None, IsNone, IsSome, is_some}
use Rattle.cc_check.specs.declared.silent.SilentVerdict.TheVariants as verdicts
use Rattle.cc_check.specs.Silent.{IsSilentVerdict}
use Rattle.cc_defs.specs.declared.refusal.Refusal.{Refusal}
use Rattle.cc_defs.specs.Description.{Description}
use Rattle.cc_defs.specs.Events.{of_horizon}
use Rattle.cc_defs.specs.Refusals.{refused}
use Rattle.cc_defs.specs.Resolved.{Query}
use Rattle.cc_defs.specs.Texts.{history_text, key_line}
use Rattle.cc_describe.specs.declared.heads.Heads.TheVariants as heads
use Rattle.cc_describe.specs.Describing.{AreToOpen}
use Rattle.cc_describe.specs.FirstRefusal.{file_named}
use Rattle.cc_describe.specs.Places.{Files, Place, opened_in}
use Rattle.cc_list.specs.Promises.{Promise, IsEndStatus}
use Rattle.cc_list.specs.Tasks.{AreRead, Named, RefusesDescription, RefusesQuery, asked_refusal, description_in, queries_in, query_named}
use Rattle.cc_list.specs.Wholes.{Whole}
use Rattle.cc_sure.specs.Accepted.{IsUnspent, never_told}
use Rattle.cc_silent.specs.SureLogs.{sure_subject}
use Rattle.cc_sure.specs.SureRuns.{IsFairSure, ReachesSureLimit, SureEnding, Complete, NoneAtAll, Spent, SureRun, sure_horizon}
use Rattle.cc_sure.specs.SureTold.{SureTold, NoneAt, ExampleIs, NeverSo, AnswersAre, Ends, sure_log, sure_told}
use Rattle.cc_tell.specs.declared.status.Status.{Status}
use Rattle.cc_tell.specs.declared.status.Status.TheVariants as statuses
use Rattle.cc_tell.specs.ErrLines.{refusal_text}
use Rattle.cc_tell_modes.specs.SureTexts.{answer_lines, ending_line}
use Rattle.cc_words.specs.Requests.{Surely}
use Rattle.cc_words.specs.Words.{Text}

-- ---- what is refused: a query with a claim, behind what is refused of any query

abbrev pub named_surely : Surely → Named
named_surely surely = record { file = surely.file; query = surely.query; after = None }

-- 20, at the place of the query
abbrev pub claim_refusal : Query → Refusal
claim_refusal query = refused 20 query.file query.line

pub record RefusesClaim (files : Files) (named : Named) (refusal : Refusal) (file : Text) : Type 0 where
  pub places : List Place
  pub read : AreRead files named.file places
  pub query : Query
  pub named_is : query_named named.query (queries_in places) ≡ Some query
  pub unrefused : asked_refusal (description_in places) (Some query) ≡ None
  pub claim : IsSome query.claim
  pub refused : refusal ≡ claim_refusal query
  pub name : file ≡ file_named (opened_in places) refusal

abbrev pub RefusesClaimed : Files → Named → Refusal → Text → Type 0
RefusesClaimed files named refusal file =
    RefusesDescription files named refusal file ⊎ (RefusesQuery files named refusal file ⊎ RefusesClaim files named refusal file)

-- the description and the query that are named, of which nothing is refused
pub record NamesUnclaimed (files : Files) (named : Named) (d : Description) (q : Query) : Type 0 where
  pub places : List Place
  pub read : AreRead files named.file places
  pub description : d ≡ description_in places
  pub query : query_named named.query (queries_in places) ≡ Some q
  pub unrefused : asked_refusal d (Some q) ≡ None
  pub claim : IsNone q.claim

-- ---- what is printed

-- what is printed of an event, where the run is at this horizon
abbrev pub sure_line : Description → (horizon : ℕ) → SureTold → List ℕ
sure_line d horizon (NoneAt empty) = of_horizon empty (codes "no history")
sure_line d horizon (ExampleIs number row) =
    of_horizon horizon (codes "example " ++ decimal number) ++ history_text d horizon row ++ key_line horizon row
sure_line d horizon (NeverSo position value section) = []
sure_line d horizon (AnswersAre position answers) = answer_lines d position 0 answers
sure_line d horizon (Ends sought ending) = ending_line ending

abbrev pub sure_text : Description → Query → SureRun → List ℕ
sure_text d q run = flat_map (sure_line d (sure_horizon q run)) (sure_told q run)

-- ---- what is given

abbrev pub sure_status : SureEnding → Status
sure_status Complete = statuses.Right
sure_status NoneAtAll = statuses.Not
sure_status (Spent section) = statuses.Spent

-- how it ends: with its ending, or with the limit that the search passes which it comes to; or it has not ended yet
abbrev pub EndsSurely : Description → Query → (budget : ℕ) → SureRun → (err : List ℕ) → Option Status → Type 0
EndsSurely d q budget run err None = err ≡ []
EndsSurely d q budget run err (Some status) =
    ((ending : SureEnding) × (run.ending ≡ Some ending) × (err ≡ []) × (status ≡ sure_status ending))
    ⊎ ((refusal : Refusal) × ReachesSureLimit d q budget run refusal × (err ≡ refusal_text refusal []) × (status ≡ statuses.Refused))

-- A fair run is told: which horizons have no history, examples, and for each atom of the first horizon that has one whether all,
-- some or none of its histories have it; with a log of what is impossible.
pub record TellsSurely (surely : Surely) (files : Files) (whole : Whole) : Type 0 where
  pub description : Description
  pub query : Query
  pub named : NamesUnclaimed files (named_surely surely) description query
  pub run : SureRun
  pub fair : IsFairSure description query surely.budget run
  pub out : whole.given.out ≡ sure_text description query run
  pub log : whole.given.log ≡ sure_log query run
  -- unless a search was spent, a checker accepts the log, with a section for each impossible value
  pub accepted : IsUnspent run → IsSilentVerdict (sure_subject description query) whole.given.log (verdicts.Accepted (length (never_told query run)))
  pub begun : whole.begun ≡ is_some surely.log
  pub ends : EndsSurely description query surely.budget run whole.given.err whole.ends

abbrev pub MayEndSurely : Status → Type 0
MayEndSurely statuses.Asked = ⊥
MayEndSurely status = IsEndStatus status

abbrev pub sure_promise : Surely → Promise
sure_promise surely = record {
  Refuses = λ files. RefusesClaimed files (named_surely surely);
  Gives = TellsSurely surely;
  Opens = λ files. AreToOpen heads.Definite files surely.file;
  begins = λ _. surely.log;
  MayEnd = MayEndSurely;
}
