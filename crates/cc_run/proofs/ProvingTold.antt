-- A run on every horizon, from its steps; and a query of a description that was read.
use Rattle.std.proofs.Common.{◌≡◌, ◌∙◌, ◌≤◌, arith, refl, sym, ap, subst, ℕ, Bool, true, false, List, [], append-nil, Option, Some, None, Result, Ok, Err, IfSome, IfOk, inl, inr, map, option_map}
use Rattle.std.specs.Prelude.{if◌then◌else◌, is_some}
use Rattle.cc_arena.specs.GroundViews.{plain_ground_query}
use Rattle.cc_arena.specs.declared.ground_laws.GroundLaw.{GroundLaw}
use Rattle.cc_arena.specs.declared.ground_laws.GroundQuery.{GroundQuery}
use Rattle.cc_defs.specs.declared.lists.Key.{Key}
use Rattle.cc_defs.specs.Description.{Description}
use Rattle.cc_defs.specs.GroundLaws.{PlainGroundQuery, StandsForQuery}
use Rattle.cc_defs.specs.Limits.{most_steps}
use Rattle.cc_defs.specs.Resolved.{Query, plain_query}
use Rattle.cc_defs.specs.Runs.{optional, range_of}
use Rattle.cc_defs.specs.Signatures.{Signature}
use Rattle.cc_describe.specs.declared.description.Described.{Described}
use Rattle.cc_describe.specs.declared.heads.Heads.TheVariants as heads
use Rattle.cc_describe.specs.Places.{Files}
use Rattle.cc_forever.specs.Accepted.{ForeverLogsAreAccepted}
use Rattle.cc_forever.specs.ForeverRuns.{FairRunsProveNever, FairRunsTellTheFirst, ForeverEnding, ForeverRun, Met, Proved, ReachesForeverLimit, Spent, Unsettled}
use Rattle.cc_forever.specs.Forevers.{ForeverSubject, ForeverView, IsAbout, IsRightRun, Steps, nothing_told}
use Rattle.cc_form.specs.Queries.{IsQueryAt}
use Rattle.cc_list.proofs.Described.{IsRead}
use Rattle.cc_list.proofs.Outcomes.{known, prints_begun}
use Rattle.cc_list.proofs.Passing.{range_is}
use Rattle.cc_list.specs.Asking.{AreNamed, AreOf, AreSearchable}
use Rattle.cc_list.specs.Promises.{Keeps, log_asked}
use Rattle.cc_list.specs.Stops.{Prints, outcome}
use Rattle.cc_list.specs.Tasks.{AreRead, Named, description_in, query_named}
use Rattle.cc_list.specs.Wholes.{Whole}
use Rattle.cc_ports.specs.Contents.{Contents}
use Rattle.cc_ports.specs.declared.desk.To.TheVariants as outputs
use Rattle.cc_ports.specs.Moments.{Moment}
use Rattle.cc_run.proofs.ProvingTexts.{forever_ends, forever_given}
use Rattle.cc_run.proofs.SurelyTold.{log_begins, range_low, with_err}
use Rattle.cc_run.specs.Judging.{MayEndJudging}
use Rattle.cc_run.specs.Modes.Proving.{EndsForever, MayEndProving, NamesQuery, TellsForever, named_to_prove, proving_promise, proving_status}
use Rattle.cc_silent.specs.declared.forever_verdict.ForeverVerdict.{ForeverVerdict}
use Rattle.cc_silent.specs.declared.forever_verdict.ForeverVerdict.TheVariants as verdicts
use Rattle.cc_silent.specs.ForeverLogs.{forever_header}
use Rattle.cc_tell.proofs.GivenSteps.{step_as}
use Rattle.cc_tell.specs.declared.status.Status.{Status}
use Rattle.cc_tell.specs.declared.status.Status.TheVariants as statuses
use Rattle.cc_tell.specs.declared.status.Stop.{Stop}
use Rattle.cc_tell.specs.Givens.{given_to, nothing}
use Rattle.cc_tell.specs.Steps.{Begins}
use Rattle.cc_tell_modes.specs.declared.forever.JudgedForever.{JudgedForever}
use Rattle.cc_tell_modes.specs.ForeverTexts.{forever_status, forever_verdict_status}
use Rattle.cc_tell_modes.specs.RunsTold.{TellsRun}
use Rattle.cc_theory.specs.Theories.{AreLawsFor, AreLawsOf}
use Rattle.cc_words.specs.declared.asked.ForeverAsked.{ForeverAsked}
use Rattle.cc_words.specs.Requests.{Proving, ToProve}
use Rattle.cc_words.specs.Views.{proving_by}
use Rattle.cc_words.specs.Words.{Text}

-- ---- the query that is named

module _ (o : Option Contents) (by : Named) (described : Described) (of : IsRead heads.Definite o (λ files. files) by.file described) where
  query_of : (files : Files) (q : Query) (key : Option Key) → AreRead files by.file of.places → AreNamed (description_in of.places) (map plain_query described.queries) by.query by.after q key →
      NamesQuery files by (description_in of.places) q
  query_of files q key read is = record {
    places = of.places;
    read = read;
    description = refl;
    query = subst (λ (queries : List Query). query_named by.query queries ≡ Some q) of.said.queries is.query;
    unrefused = is.unrefused;
  }

  pub names_query : (q : Query) (key : Option Key) → AreNamed (description_in of.places) (map plain_query described.queries) by.query by.after q key →
      IfSome o (λ before. NamesQuery before.files by (description_in of.places) q)
  names_query q key is =
      known o (λ before. AreRead before.files by.file of.places) (λ before. NamesQuery before.files by (description_in of.places) q)
      (λ before read. query_of before.files q key read is) of.read

-- without its key
pub unkeyed : (signature : Signature) (laws : List GroundLaw) (query : PlainGroundQuery) (key : Option Key) → AreSearchable signature laws query key → AreSearchable signature laws query None
unkeyed signature laws query key can = record { laws_fit = can.laws_fit; ordered = can.ordered; most = can.most; steps = can.steps; key_fits = tt }

-- ---- what is asked

same_proving : (a b : Proving) → ToProve a ≡ ToProve b → a ≡ b
same_proving a b e = cc

pub proving_is : (asked : ForeverAsked) (proving : Proving) → ToProve (proving_by asked) ≡ ToProve proving → proving_by asked ≡ proving
proving_is asked proving e = same_proving (proving_by asked) proving e

pub begins_proving : {X : Type 0} (asked : ForeverAsked) (proving : Proving) → proving_by asked ≡ proving → (names : List Text) (x y : Moment) (r : Result X Stop) →
    Begins (is_some asked.log) names x y r → Begins (is_some proving.log) names x y r
begins_proving asked proving is names x y r begins = subst (λ b. Begins b names x y r) (log_begins asked.log ∙ ap (λ (p : Proving). is_some p.log) is) begins

pub proving_log : (proving : Proving) (names : List Text) → names ≡ optional proving.log → (status : Status) → names ≡ log_asked (proving_promise proving) status
proving_log proving names named status = named

abbrev pub subject_of : Description → Query → (budget : ℕ) → ForeverSubject
subject_of d q budget = record { description = d; query = q; budget = budget }

abbrev pub TellsProof : (claim : Bool) → Description → Query → (budget : ℕ) → Moment → Moment → Result Status Stop → Type 0
TellsProof claim d q budget x y r =
    TellsRun (IsRightRun (subject_of d q budget)) (ReachesForeverLimit d q) (Steps (subject_of d q budget)) (forever_status claim) (forever_given d q) nothing x y r

pub about_of : (forever : ForeverView) (signature : Signature) (laws : List GroundLaw) (query : PlainGroundQuery) (budget : ℕ) (d : Description) (q : Query) → forever.signature ≡ signature →
    forever.laws ≡ laws → forever.query ≡ query → forever.budget ≡ budget → AreOf signature laws query d q → IsAbout forever (subject_of d q budget)
about_of forever signature laws query budget d q signature_is laws_is query_is budget_is of = record {
  laws = subst (λ (s : Signature). AreLawsOf s forever.laws d) (sym signature_is) (subst (λ (l : List GroundLaw). AreLawsOf signature l d) (sym laws_is) of.laws_are);
  query = subst (λ (p : PlainGroundQuery). StandsForQuery p d q) (sym query_is) of.query_is;
  budget = budget_is;
}

-- the run that has told nothing gives the header of its log
pub header_is : (d : Description) (q : Query) → given_to outputs.Log forever_header ≡ forever_given d q nothing_told
header_is d q = λ i. record { out = []; err = []; log = sym (append-nil forever_header) i }

-- ---- a run

status_may : (claim : Bool) (ending : ForeverEnding) → MayEndProving (proving_status claim ending)
status_may claim (Proved section) = either claim
  where
    either : (b : Bool) → MayEndProving (if b then statuses.Right else statuses.Not)
    either true = tt
    either false = tt
status_may claim (Met row) = either claim
  where
    either : (b : Bool) → MayEndProving (if b then statuses.Not else statuses.Right)
    either true = tt
    either false = tt
status_may claim Unsettled = tt
status_may claim (Spent section) = tt

ends_may : (d : Description) (q : Query) (run : ForeverRun) (err : List ℕ) (ends : Option Status) (status : Status) → EndsForever d q run err ends → ends ≡ Some status → MayEndProving status
ends_may d q run err None status how is = absurd cc
ends_may d q run err (Some other) status (inl ended) is =
    let same : other ≡ status = cc in subst MayEndProving (sym ended.3 ∙ same) (status_may (is_some q.claim) ended.0)
ends_may d q run err (Some other) status (inr refused) is =
    let same : other ≡ status = cc in subst MayEndProving (sym refused.3 ∙ same) tt

-- what its laws and its query are searched with, and what a run on them shows
pub record Laws (d : Description) (q : Query) : Type 0 where
  pub signature : Signature
  pub laws : List GroundLaw
  pub query : PlainGroundQuery
  pub fit : AreLawsFor signature laws
  pub of : AreOf signature laws query d q
  pub asked : IsQueryAt signature query.lo query
  pub most : (range_of q).1 ≤ most_steps
  pub never : FairRunsProveNever
  pub first : FairRunsTellTheFirst
  pub accepted : ForeverLogsAreAccepted

pub shown_by : (signature : Signature) (laws : List GroundLaw) (query : PlainGroundQuery) (d : Description) (q : Query) → AreSearchable signature laws query None → AreOf signature laws query d q →
    FairRunsProveNever → FairRunsTellTheFirst → ForeverLogsAreAccepted → Laws d q
shown_by signature laws query d q can of never first accepted = record {
  signature = signature;
  laws = laws;
  query = query;
  fit = can.laws_fit;
  of = of;
  asked = can.steps query.lo (omega arith) can.ordered;
  most = range_low query d q of.query_is can.most;
  never = never;
  first = first;
  accepted = accepted;
}

-- its least horizon is that of the ground query
pub least_is : (made : PlainGroundQuery) (d : Description) (q : Query) → StandsForQuery made d q → made.lo ≡ (range_of q).0
least_is made d q stands = ap (λ (query : PlainGroundQuery). query.lo) stands.2 ∙ ap (λ (range : ℕ × ℕ). range.0) (sym (range_is made d q stands))

-- the query has a claim exactly where the ground query has
some_mapped : {A B C : Type 0} (f : A → C) (g : B → C) (a : Option A) (b : Option B) → option_map f a ≡ option_map g b → is_some b ≡ is_some a
some_mapped f g None None same = refl
some_mapped f g None (Some y) same = absurd cc
some_mapped f g (Some x) None same = absurd cc
some_mapped f g (Some x) (Some y) same = refl

pub claim_of : (made : GroundQuery) (d : Description) (q : Query) → StandsForQuery (plain_ground_query made) d q → is_some q.claim ≡ is_some made.claim
claim_of made d q stands = some_mapped _ _ made.claim q.claim (ap (λ (p : PlainGroundQuery). p.claim) stands.2)

pub prints_proof : {X : Type 0} (proving : Proving) (d : Description) (q : Query) (shows : Laws d q) (claim : Bool) → is_some q.claim ≡ claim → (names : List Text) (x y z : Moment) (b : Result X Stop)
    (v : X) (r : Result Status Stop) → names ≡ optional proving.log → IfSome x.told (λ c. NamesQuery c.files (named_to_prove proving) d q) → Begins (is_some proving.log) names x y b → b ≡ Ok v →
    TellsProof claim d q proving.budget y z r → Prints (proving_promise proving) (is_some proving.log) [] x z r
prints_proof proving d q shows claim claim_is names x y z b v r named is at was told =
    let fair = told.fair.fair in
    let whole : Whole = record { given = record (forever_given d q told.run) { err = told.err }; begun = is_some proving.log; ends = told.ends } in
    let tells : (files : Files) → NamesQuery files (named_to_prove proving) d q → TellsForever proving files whole = λ files is. record {
      description = d;
      query = q;
      named = is;
      run = told.run;
      fair = fair;
      out = refl;
      log = refl;
      none = shows.first d q proving.budget told.run fair;
      never = shows.never shows.signature shows.laws shows.query d q proving.budget told.run shows.fit shows.of.laws_are shows.of.query_is shows.asked fair;
      accepted = shows.accepted d q proving.budget told.run fair told.fair.writable shows.most;
      begun = refl;
      ends = ends;
    } in
    let names_are = proving_log proving names named in
    prints_begun (proving_promise proving) (is_some proving.log) names whole x y z b v r (names_are statuses.Right) (λ _. names_are (outcome r))
    (known x.told (λ c. NamesQuery c.files (named_to_prove proving) d q) (λ c. Keeps (proving_promise proving) c.files whole)
    (λ c is. inr (tells c.files is)) is)
    refl at was (step_as told.more whole.given y z r (told.grows ∙ with_err (forever_given d q told.run) told.err refl) told.step) told.ended (may r told.ended)
  where
    ends : EndsForever d q told.run told.err told.ends
    ends = forever_ends (subject_of d q proving.budget) claim claim_is told.run told.err told.ends told.how

    may : (r : Result Status Stop) → IfOk r (λ status. told.ends ≡ Some status) → IfOk r ((proving_promise proving).MayEnd)
    may (Ok status) is = ends_may d q told.run told.err told.ends status ends is
    may (Err stop) is = tt

-- the same, asked by what the program has
pub told_as_asked : (claim : Bool) (asked : ForeverAsked) (proving : Proving) → proving_by asked ≡ proving → (d : Description) (q : Query) (x y : Moment) (r : Result Status Stop) →
    TellsProof claim d q asked.budget x y r → TellsProof claim d q proving.budget x y r
told_as_asked claim asked proving is d q x y r tells = subst (λ (p : Proving). TellsProof claim d q p.budget x y r) is tells

-- ---- the verdict on a log

pub forever_verdict_may : (judged : JudgedForever) → MayEndJudging (forever_verdict_status judged.found)
forever_verdict_may judged = by judged.found
  where
    by : (found : ForeverVerdict) → MayEndJudging (forever_verdict_status found)
    by (verdicts.Accepted steps) = tt
    by (verdicts.Refused line reason) = tt
