-- A run that came to its end with an answer: the fair run of the query that it told, and how that ended.
use Rattle.std.proofs.Common.{◌≡◌, ◌∙◌, refl, sym, ap, subst, ℕ, ◌+◌, ◌≤◌, List, [], ◌∷◌, length, Option, Some, None, inl, inr, arith, length-append}
use Rattle.std.specs.Prelude.{IfSome, is_some}
use Rattle.std.proofs.lemmas.Option.{same_Some}
use Rattle.cc_corollaries.specs.Corollaries.{NoneBelow}
use Rattle.cc_corollaries.specs.Ran.{AskedForEver, Listed, Ran}
use Rattle.cc_defs.specs.declared.event.Ending.{Ending}
use Rattle.cc_defs.specs.declared.lists.Key.{Key}
use Rattle.cc_defs.specs.Description.{Description}
use Rattle.cc_defs.specs.Events.{out_text}
use Rattle.cc_defs.specs.Histories.{AreFirst}
use Rattle.cc_defs.specs.Resolved.{Query}
use Rattle.cc_defs.specs.Runs.{Ask, IsFairRun, Run, Section, events_of, first_horizon, optional, range_of}
use Rattle.cc_describe.specs.Places.{Files, OneListOfPlaces, Place}
use Rattle.cc_forever.specs.ForeverRuns.{ForeverEnding, ForeverRun, HasNoneBefore, IsFairForever, MayEndForever, Met, Proved, bases, forever_horizon}
use Rattle.cc_induction.specs.Induction.{Never}
use Rattle.cc_list.specs.Answers.{Answers, Counts, Ended, left_in}
use Rattle.cc_list.specs.Listing.{listed_as, listing_promise}
use Rattle.cc_list.specs.Names.{IsAnswer}
use Rattle.cc_list.specs.Promises.{Promise}
use Rattle.cc_list.specs.Searching.{EndsSo, IsTold}
use Rattle.cc_list.specs.Tasks.{IsKeyNamed, IsTask, Named, Task, description_in, named_by, queries_in, query_named}
use Rattle.cc_list.specs.Wholes.{Left, Whole}
use Rattle.cc_ports.specs.Contents.{Contents}
use Rattle.cc_run.specs.Modes.Proving.{EndsForever, NamesQuery, named_to_prove, proving_promise, proving_status}
use Rattle.cc_run.specs.Promised.{promise_asked, promise_of, promised}
use Rattle.cc_tell.specs.declared.status.Status.{Status}
use Rattle.cc_tell.specs.declared.status.Status.TheVariants as statuses
use Rattle.cc_tell.specs.Statuses.{status_of}
use Rattle.cc_words.specs.Requests.{Listing, Proving, Request, ToList, ToProve}
use Rattle.cc_words.specs.Words.{Text}

-- ---- what was asked

-- a name has one query
pub same_query : OneListOfPlaces → (files : Files) (named : Named) (d e : Description) (q r : Query) → NamesQuery files named d q → NamesQuery files named e r →
    (d ≡ e) × (q ≡ r)
same_query one files named d e q r first second =
    let places : first.places ≡ second.places = one files named.file first.places second.places first.read.all second.read.all in (
      first.description ∙ ap description_in places ∙ sym second.description,
      same_Some q r (sym first.query ∙ ap (λ (places : List Place). query_named named.query (queries_in places)) places ∙ second.query),
    )

pub task_named : (files : Files) (named : Named) (task : Task) → IsTask files named task → NamesQuery files named task.description task.query
task_named files named task is = record { places = is.places; read = is.read; description = is.description; query = is.query; unrefused = is.unrefused }

pub no_key_named : (d : Description) (q : Query) (after : Option Text) (key : Option Key) → after ≡ None → IsKeyNamed d q after key → key ≡ None
no_key_named d q None None none named = refl
no_key_named d q None (Some key) none named = absurd named
no_key_named d q (Some text) key none named = absurd cc

-- ---- how it ended

ended_with : (files : Files) (promise : Promise) (status : Status) (counts : Counts) (left : Left) → IsAnswer status → Answers files promise status counts left →
    Ended files promise status left
ended_with files promise statuses.Right counts left answer is = is
ended_with files promise statuses.Not counts left answer is = is
ended_with files promise statuses.Refused counts left answer is = is
ended_with files promise statuses.Spent counts left answer is = is
ended_with files promise statuses.Asked counts left answer is = is
ended_with files promise statuses.ReadFault counts left answer is = absurd answer
ended_with files promise statuses.WriteFault counts left answer is = absurd answer
ended_with files promise statuses.OutOfMemory counts left answer is = absurd answer

pub not_refused : {A : Type 0} (status : Status) → IsAnswer status → status ≡ statuses.Refused → A
not_refused status answer is = absurd (subst IsAnswer is answer)

-- a run that was asked for this keeps its promise
pub ended_so : (request : Request) (before after : Contents) (status : Status) → IsAnswer status → (ran : Ran request before status after) →
    Ended before.files (promise_of request) status (left_in after ran.answered.log ran.begun)
ended_so request before after status answer ran =
    let left = left_in after ran.answered.log ran.begun in
    subst (λ (request : Option Request). Ended before.files (promise_asked request) status left) ran.asked
    (ended_with before.files (promised ran.words) status ran.counts left answer ran.answered.answer)

-- ---- list mode

-- what is asked for: all histories, within a budget
abbrev pub all_within : Option ℕ → ℕ → Ask
all_within count budget = record { count = count; budget = budget; after = None }

-- a fair run of a query that ended, where so many were asked for, and what was printed of it
pub record EndedRun (d : Description) (q : Query) (count : Option ℕ) (status : Status) (out : List ℕ) : Type 0 where
  pub budget : ℕ
  pub run : Run
  pub fair : IsFairRun d q (all_within count budget) run
  pub ending : Ending
  pub ends : run.ending ≡ Some ending
  pub status_is : status ≡ status_of ending
  pub out_is : out ≡ out_text d (events_of (range_of q).0 run)

module _ (files : Files) (listing : Listing) (no_key : listing.after ≡ None) (status : Status) (answer : IsAnswer status) where
  ended_told : (task : Task) → IsTask files (named_by listing) task → (run : Run) (whole : Whole) → IsTold (listed_as listing task) task run whole →
      whole.ends ≡ Some status → EndedRun task.description task.query task.ask.count status whole.given.out
  ended_told task is run whole told ends =
      let none = no_key_named task.description task.query listing.after task.ask.after no_key is.key in
      let fair = subst (λ (key : Option Key). IsFairRun task.description task.query (record { count = task.ask.count; budget = task.ask.budget; after = key }) run)
      none told.fair in
      let out = subst (λ (key : Option Key). whole.given.out ≡ out_text task.description (events_of (first_horizon task.query key) run)) none told.out in
      elim (subst (EndsSo task run whole.given.err) ends told.ends) [
        | inl (ending, ended, err, is) ↦ record {
          budget = task.ask.budget;
          run = run;
          fair = fair;
          ending = ending;
          ends = ended;
          status_is = is;
          out_is = out;
        }
        | inr (refusal, none, passes, err, is) ↦ not_refused status answer is
      ]

  ended_list : OneListOfPlaces → (d : Description) (q : Query) → NamesQuery files (named_by listing) d q → (left : Left) →
      Ended files (listing_promise listing) status left → EndedRun d q listing.count status left.given.out
  ended_list one d q named left ended = elim ended.gives [
    | inl refused ↦ not_refused status answer (same_Some status statuses.Refused (sym ended.ends ∙ refused.ends))
    | inr lists ↦
        let (same_d, same_q) = same_query one files (named_by listing) lists.task.description d lists.task.query q
        (task_named files (named_by listing) lists.task lists.is) named in
        subst (λ (d : Description). EndedRun d q listing.count status left.given.out) same_d
        (subst (λ (q : Query). EndedRun lists.task.description q listing.count status left.given.out) same_q
        (subst (λ (count : Option ℕ). EndedRun lists.task.description lists.task.query count status left.given.out) lists.count
        (subst (EndedRun lists.task.description lists.task.query lists.task.ask.count status) (ap (λ (l : Left). l.given.out) (sym ended.left_is))
        (ended_told lists.task lists.is lists.run ended.whole lists.told ended.ends))))
  ]

pub listed_run : OneListOfPlaces → (d : Description) (q : Query) (status : Status) (after : Contents) → IsAnswer status → (listed : Listed d q status after) →
    EndedRun d q listed.listing.count status after.out
listed_run one d q status after answer is =
    ended_list is.before.files is.listing is.no_key status answer one d q is.named (left_in after is.ran.answered.log is.ran.begun)
    (ended_so (ToList is.listing) is.before after status answer is.ran)

-- ---- forever mode

-- no horizon before this one has a history, and this row is its least one
pub record IsFirstOf (d : Description) (q : Query) (row : List ℕ) : Type 0 where
  pub horizon : ℕ
  pub least : (range_of q).0 ≤ horizon
  pub none : NoneBelow d q horizon
  pub first : AreFirst d q horizon None (row ∷ [])

-- a fair run that met a row, and tells of no horizon before it
met_first : (d : Description) (q : Query) (budget : ℕ) (run : ForeverRun) → IsFairForever d q budget run → HasNoneBefore d q ((range_of q).0 + length (bases run)) →
    (row : List ℕ) → run.ending ≡ Some (Met row) → IsFirstOf d q row
met_first d q budget run fair none row met =
    let (nothing_next, reach, is_least) = subst (λ (ending : Option ForeverEnding). IfSome ending (MayEndForever d q budget run)) met fair.ending in
    let long : length (bases run) ≡ length run.failed + length (optional run.next) = length-append run.failed (optional run.next) in record {
      horizon = forever_horizon q run;
      least = omega arith;
      none = λ other least below. none other least (omega arith);
      first = is_least.first;
    }

-- a run over every horizon that ended so
pub record EndedForever (d : Description) (q : Query) (status : Status) : Type 0 where
  pub ending : ForeverEnding
  pub status_is : status ≡ proving_status (is_some q.claim) ending
  pub never : (section : Section) → ending ≡ Proved section → Never d q
  pub first : (row : List ℕ) → ending ≡ Met row → IsFirstOf d q row

module _ (files : Files) (proving : Proving) (status : Status) (answer : IsAnswer status) where
  ended_proving : OneListOfPlaces → (d : Description) (q : Query) → NamesQuery files (named_to_prove proving) d q → (left : Left) →
      Ended files (proving_promise proving) status left → EndedForever d q status
  ended_proving one d q named left ended = elim ended.gives [
    | inl refused ↦ not_refused status answer (same_Some status statuses.Refused (sym ended.ends ∙ refused.ends))
    | inr tells ↦
        let (same_d, same_q) = same_query one files (named_to_prove proving) tells.description d tells.query q tells.named named in
        subst (λ (d : Description). EndedForever d q status) same_d
        (subst (λ (q : Query). EndedForever tells.description q status) same_q
        (elim (subst (EndsForever tells.description tells.query tells.run ended.whole.given.err) ended.ends tells.ends) [
          | inl (ending, is, err, status_is) ↦ record {
            ending = ending;
            status_is = status_is;
            never = λ section proved. tells.never section (is ∙ ap Some proved);
            first = λ row met. met_first tells.description tells.query proving.budget tells.run tells.fair tells.none row (is ∙ ap Some met);
          }
          | inr (refusal, reaches, err, is) ↦ not_refused status answer is
        ]))
  ]

pub proved_run : OneListOfPlaces → (d : Description) (q : Query) (status : Status) (after : Contents) → IsAnswer status → AskedForEver d q status after →
    EndedForever d q status
proved_run one d q status after answer is =
    ended_proving is.before.files is.proving status answer one d q is.named (left_in after is.ran.answered.log is.ran.begun)
    (ended_so (ToProve is.proving) is.before after status answer is.ran)
