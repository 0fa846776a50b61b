-- A run that tells what is certain and possible, from its steps.
use Rattle.std.proofs.Common.{◌≡◌, ◌∙◌, refl, sym, ap, subst, ℕ, List, [], ◌++◌, append-nil, Option, Some, None, Result, Ok, Err, IfSome, IfOk, inl, inr, arith, ◌≤◌}
use Rattle.std.specs.Borrow.{Bor}
use Rattle.std.specs.Prelude.{is_some}
use Rattle.cc_arena.specs.declared.ground_laws.GroundLaw.{GroundLaw}
use Rattle.cc_defs.specs.declared.refusal.Refusal.{Refusal}
use Rattle.cc_defs.specs.Description.{Description}
use Rattle.cc_defs.specs.GroundLaws.{PlainGroundQuery, StandsForQuery}
use Rattle.cc_defs.specs.Limits.{most_steps}
use Rattle.cc_defs.specs.LogTexts.{IsShort}
use Rattle.cc_defs.specs.Resolved.{Query}
use Rattle.cc_defs.specs.Runs.{optional, range_of}
use Rattle.cc_defs.specs.Signatures.{Signature}
use Rattle.cc_describe.specs.Places.{Files}
use Rattle.cc_ports.specs.Contents.{Contents}
use Rattle.cc_ports.specs.declared.desk.To.TheVariants as outputs
use Rattle.cc_ports.specs.Moments.{Moment}
use Rattle.cc_run.specs.Modes.Surely.{EndsSurely, MayEndSurely, NamesUnclaimed, RefusesClaimed, TellsSurely, named_surely, sure_promise, sure_status}
use Rattle.cc_list.specs.Asking.{AreOf}
use Rattle.cc_list.specs.Promises.{Keeps, log_asked}
use Rattle.cc_list.specs.Stops.{Prints, outcome}
use Rattle.cc_run.specs.Sures.{surely_given}
use Rattle.cc_list.specs.Wholes.{Whole}
use Rattle.cc_sure.specs.Accepted.{SureLogsAreAccepted}
use Rattle.cc_sure.specs.declared.turn.SureStep.{SureStep}
use Rattle.cc_sure.specs.SureRuns.{ReachesSureLimit, SureEnding, Complete, NoneAtAll, Spent, SureRun, sure_horizon}
use Rattle.cc_sure.specs.Sures.{IsSureOf, SureView, nothing_told}
use Rattle.cc_sure.specs.SureSteps.{IsRightRun, Steps, SureSubject}
use Rattle.cc_silent.specs.SureLogs.{sure_header}
use Rattle.cc_tell.specs.declared.status.Status.{Status}
use Rattle.cc_tell.specs.declared.status.Status.TheVariants as statuses
use Rattle.cc_tell.specs.declared.status.Stop.{Stop}
use Rattle.cc_tell.specs.Steps.{Begins}
use Rattle.cc_tell.specs.Givens.{Given, given_to, joined, nothing, only_err}
use Rattle.cc_tell_modes.specs.RunsTold.{TellsRun}
use Rattle.cc_tell_modes.specs.SureTexts.{status_behind}
use Rattle.cc_theory.specs.Theories.{AreLawsOf}
use Rattle.cc_words.specs.declared.asked.SureAsked.{SureAsked}
use Rattle.cc_words.specs.Requests.{Surely, ToBeSure}
use Rattle.cc_words.specs.Views.{plain_text, surely_by}
use Rattle.cc_words.specs.Words.{Text}
use Rattle.cc_tell.proofs.GivenSteps.{step_as}
use Rattle.cc_list.proofs.Outcomes.{known, prints_begun}
use Rattle.cc_list.proofs.Passing.{range_is}
use Rattle.cc_run.proofs.SureTexts.{surely_ends}

-- ---- what is asked

same_surely : (a b : Surely) → ToBeSure a ≡ ToBeSure b → a ≡ b
same_surely a b e = cc

pub surely_is : (asked : SureAsked) (surely : Surely) → ToBeSure (surely_by asked) ≡ ToBeSure surely → surely_by asked ≡ surely
surely_is asked surely e = same_surely (surely_by asked) surely e

-- a log that is begun as it is named
pub log_begins : (o : Option (Bor Text)) → is_some o ≡ is_some (plain_text o)
log_begins None = refl
log_begins (Some text) = refl

pub begins_surely : {X : Type 0} (asked : SureAsked) (surely : Surely) → surely_by asked ≡ surely → (names : List Text) (x y : Moment) (r : Result X Stop) →
    Begins (is_some asked.log) names x y r → Begins (is_some surely.log) names x y r
begins_surely asked surely is names x y r begins = subst (λ b. Begins b names x y r) (log_begins asked.log ∙ ap (λ (s : Surely). is_some s.log) is) begins

-- what is refused of it
pub refuses_surely : (o : Option Contents) (surely : Surely) (refusal : Refusal) (file : Text) →
    IfSome o (λ before. RefusesClaimed before.files (named_surely surely) refusal file) → IfSome o (λ before. (sure_promise surely).Refuses before.files refusal file)
refuses_surely o surely refusal file =
    known o (λ before. RefusesClaimed before.files (named_surely surely) refusal file) (λ before. (sure_promise surely).Refuses before.files refusal file)
    (λ before refused. refused)

-- the log that is named is the one that is asked for, however the run ends
pub surely_log : (surely : Surely) (names : List Text) → names ≡ optional surely.log →
    (status : Status) → names ≡ log_asked (sure_promise surely) status
surely_log surely names named status = named

-- what a run is about
abbrev pub asked_of : Description → Query → (budget : ℕ) → SureSubject
asked_of d q budget = record { description = d; query = q; budget = budget }

abbrev pub TellsSure : Description → Query → (budget : ℕ) → Moment → Moment → Result Status Stop → Type 0
TellsSure d q budget x y r = TellsRun (IsRightRun (asked_of d q budget)) (ReachesSureLimit d q budget) (Steps (asked_of d q budget)) (λ (step : SureStep). status_behind step.turn)
    (surely_given d q) nothing x y r

pub sure_of : (sure : SureView) (signature : Signature) (laws : List GroundLaw) (query : PlainGroundQuery) (d : Description) (q : Query) → sure.signature ≡ signature →
    sure.laws ≡ laws → sure.query ≡ query → AreOf signature laws query d q → IsSureOf sure d q
sure_of sure signature laws query d q signature_is laws_is query_is of = record {
  laws = subst (λ (s : Signature). AreLawsOf s sure.laws d) (sym signature_is) (subst (λ (l : List GroundLaw). AreLawsOf signature l d) (sym laws_is) of.laws_are);
  query = subst (λ (p : PlainGroundQuery). StandsForQuery p d q) (sym query_is) of.query_is;
}

-- the run that has told nothing gives the header of its log
pub header_is : (d : Description) (q : Query) → given_to outputs.Log sure_header ≡ surely_given d q nothing_told
header_is d q = λ i. record { out = []; err = []; log = sym (append-nil sure_header) i }

-- what is given, with what is given to the error output in place of nothing
pub with_err : (given : Given) (err : List ℕ) → given.err ≡ [] → joined given (only_err err) ≡ record given { err = err }
with_err given err none = λ i. record { out = append-nil given.out i; err = ap (λ (l : List ℕ). l ++ err) none i; log = append-nil given.log i }

-- ---- a run

status_may : (ending : SureEnding) → MayEndSurely (sure_status ending)
status_may Complete = tt
status_may NoneAtAll = tt
status_may (Spent section) = tt

surely_may : (d : Description) (q : Query) (budget : ℕ) (run : SureRun) (err : List ℕ) (ends : Option Status) (status : Status) → EndsSurely d q budget run err ends →
    ends ≡ Some status → MayEndSurely status
surely_may d q budget run err None status how is = absurd cc
surely_may d q budget run err (Some other) status (inl ended) is =
    let same : other ≡ status = cc in subst MayEndSurely (sym ended.3 ∙ same) (status_may ended.0)
surely_may d q budget run err (Some other) status (inr refused) is =
    let same : other ≡ status = cc in subst MayEndSurely (sym refused.3 ∙ same) tt

pub prints_surely : {X : Type 0} (surely : Surely) (d : Description) (q : Query) (names : List Text) (x y z : Moment) (b : Result X Stop) (v : X) (r : Result Status Stop) →
    SureLogsAreAccepted → (range_of q).1 ≤ most_steps → names ≡ optional surely.log →
    IfSome x.told (λ c. NamesUnclaimed c.files (named_surely surely) d q) →
    Begins (is_some surely.log) names x y b → b ≡ Ok v → TellsSure d q surely.budget y z r → Prints (sure_promise surely) (is_some surely.log) [] x z r
prints_surely surely d q names x y z b v r law low named is at was told =
    let fair = told.fair.fair in
    let within = fair.within in
    let short : IsShort (sure_horizon q told.run) = omega arith in
    let whole : Whole = record { given = record (surely_given d q told.run) { err = told.err }; begun = is_some surely.log; ends = told.ends } in
    let tells : (files : Files) → NamesUnclaimed files (named_surely surely) d q → TellsSurely surely files whole = λ files is. record {
      description = d;
      query = q;
      named = is;
      run = told.run;
      fair = fair;
      out = refl;
      log = refl;
      accepted = λ unspent. law d q surely.budget told.run fair unspent short told.fair.writable;
      begun = refl;
      ends = ends;
    } in
    let names_are = surely_log surely names named in
    prints_begun (sure_promise surely) (is_some surely.log) names whole x y z b v r (names_are statuses.Right) (λ _. names_are (outcome r))
    (known x.told (λ c. NamesUnclaimed c.files (named_surely surely) d q) (λ c. Keeps (sure_promise surely) c.files whole)
    (λ c is. inr (tells c.files is)) is)
    refl at was (step_as told.more whole.given y z r (told.grows ∙ with_err (surely_given d q told.run) told.err refl) told.step) told.ended (may r told.ended)
  where
    ends : EndsSurely d q surely.budget told.run told.err told.ends
    ends = surely_ends (asked_of d q surely.budget) told.run told.err told.ends told.how

    may : (r : Result Status Stop) → IfOk r (λ status. told.ends ≡ Some status) → IfOk r ((sure_promise surely).MayEnd)
    may (Ok status) is = surely_may d q surely.budget told.run told.err told.ends status ends is
    may (Err stop) is = tt

-- the range of the query that is searched
pub range_low : (made : PlainGroundQuery) (d : Description) (q : Query) → StandsForQuery made d q → made.hi ≤ most_steps → (range_of q).1 ≤ most_steps
range_low made d q stands most =
    subst (λ (n : ℕ). n ≤ most_steps) (ap (λ (query : PlainGroundQuery). query.hi) stands.2 ∙ ap (λ (range : ℕ × ℕ). range.1) (sym (range_is made d q stands))) most

-- the same, asked by what the program has
pub told_as : (asked : SureAsked) (surely : Surely) → surely_by asked ≡ surely → (d : Description) (q : Query) (x y : Moment) (r : Result Status Stop) →
    TellsSure d q asked.budget x y r → TellsSure d q surely.budget x y r
told_as asked surely is d q x y r tells = subst (λ (s : Surely). TellsSure d q s.budget x y r) is tells

pub named_as : (o : Option Contents) (asked : SureAsked) (surely : Surely) → surely_by asked ≡ surely → (d : Description) (q : Query) →
    IfSome o (λ c. NamesUnclaimed c.files (named_surely (surely_by asked)) d q) → IfSome o (λ c. NamesUnclaimed c.files (named_surely surely) d q)
named_as o asked surely is d q named = subst (λ (s : Surely). IfSome o (λ c. NamesUnclaimed c.files (named_surely s) d q)) is named
