-- General mode: the fair run over candidates that it told, how that ended, and what its ending means.
use Rattle.std.proofs.Common.{◌≡◌, ◌≢◌, ◌∙◌, refl, sym, ap, subst, ℕ, ◌+◌, ◌≤◌, List, [], ◌∷◌, length, map, Option, Some, inl, inr, arith}
use Rattle.std.specs.Prelude.{IfSome}
use Rattle.std.proofs.lemmas.Option.{same_Some}
use Rattle.cc_corollaries.specs.Models.{AskedMeansTheFirstModels, CompleteMeansAllModels, NoHistoryMeansNoModel, NoModelBelow}
use Rattle.cc_corollaries.specs.Ran.{AskedGenerally, IsTried}
use Rattle.cc_corollaries.proofs.Ended.{ended_so, not_refused}
use Rattle.cc_corollaries.proofs.GeneralTexts.{general_out, length_shown}
use Rattle.cc_defs.specs.Resolved.{Query}
use Rattle.cc_defs.specs.Runs.{range_of}
use Rattle.cc_describe.specs.Places.{Files, OneListOfPlaces, Place}
use Rattle.cc_general.specs.GeneralRuns.{Asked, Complete, GeneralEnding, GeneralRun, IsFairGeneral, MayEndGeneral, NoneAtAll, Shown, SpentAmong, SpentOver, general_horizon, rows_shown}
use Rattle.cc_list.proofs.Requests.{request_within}
use Rattle.cc_list.specs.Answers.{Ended, left_in}
use Rattle.cc_list.specs.Names.{IsAnswer}
use Rattle.cc_list.specs.Tasks.{Named, queries_in, query_named}
use Rattle.cc_list.specs.Wholes.{Left}
use Rattle.cc_ports.specs.Contents.{Contents}
use Rattle.cc_run.specs.Modes.Generally.{EndsGenerally, NamesWide, general_promise, general_status, general_text, named_generally, wide_in}
use Rattle.cc_tell.specs.declared.status.Status.{Status}
use Rattle.cc_tell.specs.declared.status.Status.TheVariants as statuses
use Rattle.cc_wide.specs.WideLaws.{WideDescription}
use Rattle.cc_words.specs.Requests.{Generally, ToListGenerally}

-- ---- what was asked, and how it ended

-- a name has one query
pub same_wide : OneListOfPlaces → (files : Files) (named : Named) (w v : WideDescription) (q r : Query) → NamesWide files named w q → NamesWide files named v r →
    (w ≡ v) × (q ≡ r)
same_wide one files named w v q r first second =
    let places : first.places ≡ second.places = one files named.file first.places second.places first.read.all second.read.all in (
      first.description ∙ ap wide_in places ∙ sym second.description,
      same_Some q r (sym first.query ∙ ap (λ (places : List Place). query_named named.query (queries_in places)) places ∙ second.query),
    )

-- a fair run over candidates that ended, and what was printed of it
record EndedGeneral (w : WideDescription) (q : Query) (count : Option ℕ) (status : Status) (out : List ℕ) : Type 0 where
  pub budget : ℕ
  pub run : GeneralRun
  pub fair : IsFairGeneral w q count budget run
  pub ending : GeneralEnding
  pub ends : run.ending ≡ Some ending
  pub status_is : status ≡ general_status q run ending
  pub out_is : out ≡ general_text w q run

module _ (files : Files) (generally : Generally) (status : Status) (answer : IsAnswer status) where
  ended_general : OneListOfPlaces → (w : WideDescription) (q : Query) → NamesWide files (named_generally generally) w q → (left : Left) →
      Ended files (general_promise generally) status left → EndedGeneral w q generally.count status left.given.out
  ended_general one w q named left ended = elim ended.gives [
    | inl refused ↦ not_refused status answer (same_Some status statuses.Refused (sym ended.ends ∙ refused.ends))
    | inr lists ↦
        let (same_w, same_q) = same_wide one files (named_generally generally) lists.description w lists.query q lists.named named in
        subst (λ (w : WideDescription). EndedGeneral w q generally.count status left.given.out) same_w
        (subst (λ (q : Query). EndedGeneral lists.description q generally.count status left.given.out) same_q
        (elim (subst (EndsGenerally lists.description lists.query generally.count lists.run ended.whole.given.err) ended.ends lists.ends) [
          | inl (ending, is, err, status_is) ↦ record {
            budget = generally.budget;
            run = lists.run;
            fair = lists.fair;
            ending = ending;
            ends = is;
            status_is = status_is;
            out_is = ap (λ (l : Left). l.given.out) ended.left_is ∙ lists.out;
          }
          | inr (refusal, reaches, err, is) ↦ not_refused status answer is
        ]))
  ]

general_run : OneListOfPlaces → (w : WideDescription) (q : Query) (status : Status) (after : Contents) → IsAnswer status → (asked : AskedGenerally w q status after) →
    EndedGeneral w q asked.generally.count status after.out
general_run one w q status after answer is =
    ended_general is.before.files is.generally status answer one w q is.named (left_in after is.ran.answered.log is.ran.begun)
    (ended_so (ToListGenerally is.generally) is.before after status answer is.ran)

-- ---- which ending has this status

module _ (q : Query) (run : GeneralRun) where
  right_complete : (ending : GeneralEnding) → statuses.Right ≡ general_status q run ending → ending ≡ Complete
  right_complete Complete code = refl
  right_complete Asked code = absurd cc
  right_complete NoneAtAll code = absurd cc
  right_complete (SpentAmong section) code = absurd cc
  right_complete (SpentOver row section) code = absurd cc

  asked_asked : (ending : GeneralEnding) → statuses.Asked ≡ general_status q run ending → ending ≡ Asked
  asked_asked Complete code = absurd cc
  asked_asked Asked code = refl
  asked_asked NoneAtAll code = absurd cc
  asked_asked (SpentAmong section) code = absurd cc
  asked_asked (SpentOver row section) code = absurd cc

  not_none : (ending : GeneralEnding) → statuses.Not ≡ general_status q run ending → ending ≡ NoneAtAll
  not_none Complete code = absurd cc
  not_none Asked code = absurd cc
  not_none NoneAtAll code = refl
  not_none (SpentAmong section) code = absurd cc
  not_none (SpentOver row section) code = absurd cc

-- ---- what it means

module _ {w : WideDescription} {q : Query} {count : Option ℕ} {status : Status} {out : List ℕ} (ran : EndedGeneral w q count status out) where
  abbrev here : ℕ
  here = general_horizon q ran.run

  none_below : NoModelBelow w q here
  none_below other least below = (ran.fair.none other least below).0

  -- the horizon of histories is one of the range
  tried : ran.run.shown ≢ [] → IsTried q here
  tried some = (omega arith, (ran.fair.opened some).0)

  ends_as : (ending : GeneralEnding) → ran.ending ≡ ending → (ran.run.ending ≡ Some ending) × MayEndGeneral w q count ran.budget ran.run ending
  ends_as ending is =
      let ends : ran.run.ending ≡ Some ending = ran.ends ∙ ap (λ (ending : GeneralEnding). Some ending) is in
      (ends, subst (λ (ending : Option GeneralEnding). IfSome ending (MayEndGeneral w q count ran.budget ran.run)) ends ran.fair.ending)

-- some were shown
some_rows : (shown : List Shown) → shown ≢ [] → map (λ shown. shown.row) shown ≢ []
some_rows [] some none = some refl
some_rows (one ∷ others) some none = absurd cc

some_asked : (count : Option ℕ) (shown : List Shown) → IfSome count (λ count. 1 ≤ count) → count ≡ Some (length shown) → shown ≢ []
some_asked count shown within enough none =
    let least : 1 ≤ length shown = subst (λ (count : Option ℕ). IfSome count (λ count. 1 ≤ count)) enough within in
    let few : length shown ≡ 0 = ap length none in
    omega arith

pub complete_models : OneListOfPlaces → CompleteMeansAllModels
complete_models one w q after asked =
    let ran = general_run one w q statuses.Right after tt asked in
    let (ends, may) = ends_as ran Complete (right_complete q ran.run ran.ending ran.status_is) in
    let (some, wanting, all, gone) = may in (
      here ran,
      rows_shown ran.run,
      tried ran some,
      none_below ran,
      all,
      some_rows ran.run.shown some,
      ran.out_is ∙ general_out w q ran.run Complete ends,
    )

pub first_models : OneListOfPlaces → AskedMeansTheFirstModels
first_models one w q after asked =
    let ran = general_run one w q statuses.Asked after tt asked in
    let (ends, enough) = ends_as ran Asked (asked_asked q ran.run ran.ending ran.status_is) in
    let within = (request_within asked.ran.words (ToListGenerally asked.generally) asked.ran.asked).0 in (
      here ran,
      rows_shown ran.run,
      tried ran (some_asked asked.generally.count ran.run.shown within enough),
      none_below ran,
      ran.fair.first,
      enough ∙ ap (λ (n : ℕ). Some n) (length_shown ran.run.shown),
      ran.out_is ∙ general_out w q ran.run Asked ends,
    )

pub no_model : OneListOfPlaces → NoHistoryMeansNoModel
no_model one w q after asked horizon (least, most) =
    let ran = general_run one w q statuses.Not after tt asked in
    let (ends, may) = ends_as ran NoneAtAll (not_none q ran.run ran.ending ran.status_is) in
    let behind : here ran ≡ (range_of q).1 + 1 = may.1 in
    none_below ran horizon least (omega arith)
