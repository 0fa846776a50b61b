-- General mode: the first histories of a query by the definition of a model itself, where heads may be of any form.
use Rattle.std.specs.Prelude.{◌≡◌, ◌⊎◌, ℕ, List, [], length, Option, Some, None, IsNone, IsSome, is_some}
use Rattle.std.specs.Option.{option_or}
use Rattle.cc_list.specs.Descriptions.{wide_description_of}
use Rattle.cc_check.specs.Silent.{IsSilentVerdict}
use Rattle.cc_check.specs.declared.silent.SilentVerdict.TheVariants as verdicts
use Rattle.cc_defs.specs.declared.refusal.Refusal.{Refusal}
use Rattle.cc_defs.specs.Events.{out_text}
use Rattle.cc_defs.specs.Resolved.{Query}
use Rattle.cc_describe.specs.declared.heads.Heads.TheVariants as heads
use Rattle.cc_describe.specs.Describing.{AreToOpen, wide_behind}
use Rattle.cc_describe.specs.FirstRefusal.{declared_in, file_named}
use Rattle.cc_describe.specs.Places.{Files, Place, opened_in}
use Rattle.cc_general.specs.Accepted.{IsUnspent}
use Rattle.cc_silent.specs.GeneralLogs.{general_subject}
use Rattle.cc_general.specs.GeneralRuns.{GeneralEnding, GeneralRun, IsFairGeneral, ReachesGeneralLimit, general_horizon}
use Rattle.cc_general.specs.GeneralTold.{ending_of, general_log, general_told}
use Rattle.cc_tell.specs.declared.status.Status.{Status}
use Rattle.cc_tell.specs.declared.status.Status.TheVariants as statuses
use Rattle.cc_run.specs.Modes.Surely.{claim_refusal}
use Rattle.cc_list.specs.Promises.{Promise, IsEndStatus}
use Rattle.cc_tell.specs.ErrLines.{refusal_text}
use Rattle.cc_tell.specs.Statuses.{status_of}
use Rattle.cc_list.specs.Tasks.{AreReadFor, Named, RefusesDescriptionFor, queries_in, query_named, query_refusal}
use Rattle.cc_list.specs.Wholes.{Whole}
use Rattle.cc_wide.specs.WideLaws.{WideDescription, frame}
use Rattle.cc_wide_ground.specs.WideGrounding.{wide_laws_refusal}
use Rattle.cc_words.specs.Requests.{Generally}
use Rattle.cc_words.specs.Words.{Text}

abbrev pub named_generally : Generally → Named
named_generally generally = record { file = generally.file; query = generally.query; after = None }

-- the description that these places make
abbrev pub wide_in : List Place → WideDescription
wide_in places = wide_description_of (declared_in places) (wide_behind heads.Any [] places)

-- ---- what is refused: the description, then its laws, then the query, and behind that its claim

abbrev pub wide_asked_refusal : WideDescription → Option Query → Option Refusal
wide_asked_refusal w q = option_or (wide_laws_refusal w.universe w.laws) (query_refusal (frame w) q)

pub record RefusesWideQuery (files : Files) (named : Named) (refusal : Refusal) (file : Text) : Type 0 where
  pub places : List Place
  pub read : AreReadFor heads.Any files named.file places
  pub refused : wide_asked_refusal (wide_in places) (query_named named.query (queries_in places)) ≡ Some refusal
  pub name : file ≡ file_named (opened_in places) refusal

-- 20, at the place of the query
pub record RefusesWideClaim (files : Files) (named : Named) (refusal : Refusal) (file : Text) : Type 0 where
  pub places : List Place
  pub read : AreReadFor heads.Any files named.file places
  pub query : Query
  pub named_is : query_named named.query (queries_in places) ≡ Some query
  pub unrefused : wide_asked_refusal (wide_in places) (Some query) ≡ None
  pub claim : IsSome query.claim
  pub refused : refusal ≡ claim_refusal query
  pub name : file ≡ file_named (opened_in places) refusal

abbrev pub RefusesGenerally : Files → Named → Refusal → Text → Type 0
RefusesGenerally files named refusal file =
    RefusesDescriptionFor heads.Any files named.file refusal file
    ⊎ (RefusesWideQuery files named refusal file ⊎ RefusesWideClaim files named refusal file)

-- the description and the query that are named, of which nothing is refused
pub record NamesWide (files : Files) (named : Named) (w : WideDescription) (q : Query) : Type 0 where
  pub places : List Place
  pub read : AreReadFor heads.Any files named.file places
  pub description : w ≡ wide_in places
  pub query : query_named named.query (queries_in places) ≡ Some q
  pub unrefused : wide_asked_refusal w (Some q) ≡ None
  pub claim : IsNone q.claim

-- ---- what is given

-- what is printed, just as of a listing
abbrev pub general_text : WideDescription → Query → GeneralRun → List ℕ
general_text w q run = out_text (frame w) (general_told q run)

abbrev pub general_status : Query → GeneralRun → GeneralEnding → Status
general_status q run ending = status_of (ending_of (general_horizon q run) (length run.shown) ending)

-- how it ends: with its ending, or with the limit that it comes to; or it has not ended yet
abbrev pub EndsGenerally : WideDescription → Query → (count : Option ℕ) → GeneralRun → (err : List ℕ) → Option Status → Type 0
EndsGenerally w q count run err None = err ≡ []
EndsGenerally w q count run err (Some status) =
    ((ending : GeneralEnding) × (run.ending ≡ Some ending) × (err ≡ []) × (status ≡ general_status q run ending))
    ⊎ ((refusal : Refusal) × ReachesGeneralLimit w q count run refusal × (err ≡ refusal_text refusal []) × (status ≡ statuses.Refused))

-- A fair run is told: which horizons have no history, and the first histories of the first one that has any, in ascending order; with a
-- log that shows of each of them that it has no rival.
pub record ListsGenerally (generally : Generally) (files : Files) (whole : Whole) : Type 0 where
  pub description : WideDescription
  pub query : Query
  pub named : NamesWide files (named_generally generally) description query
  pub run : GeneralRun
  pub fair : IsFairGeneral description query generally.count generally.budget run
  pub out : whole.given.out ≡ general_text description query run
  pub log : whole.given.log ≡ general_log query run
  -- unless a search was spent, a checker accepts the log, with a section for each history
  pub accepted : IsUnspent run → IsSilentVerdict (general_subject description query) whole.given.log (verdicts.Accepted (length run.shown))
  pub begun : whole.begun ≡ is_some generally.log
  pub ends : EndsGenerally description query generally.count run whole.given.err whole.ends

abbrev pub general_promise : Generally → Promise
general_promise generally = record {
  Refuses = λ files. RefusesGenerally files (named_generally generally);
  Gives = ListsGenerally generally;
  Opens = λ files. AreToOpen heads.Any files generally.file;
  begins = λ _. generally.log;
  MayEnd = IsEndStatus;
}
