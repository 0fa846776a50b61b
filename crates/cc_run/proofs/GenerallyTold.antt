-- A run over candidates that is told, from its steps.
use Rattle.std.proofs.Common.{◌≡◌, ◌∙◌, refl, sym, ap, subst, arith, ℕ, ◌≤◌, List, [], append-nil, Option, Some, None, Result, Ok, Err, IfSome, IfOk, inl, inr}
use Rattle.std.specs.Prelude.{is_some}
use Rattle.cc_defs.specs.declared.refusal.Refusal.{Refusal}
use Rattle.cc_defs.specs.GroundLaws.{PlainGroundQuery, StandsForQuery}
use Rattle.cc_defs.specs.Limits.{most_steps}
use Rattle.cc_defs.specs.LogTexts.{IsShort}
use Rattle.cc_defs.specs.Resolved.{Query}
use Rattle.cc_defs.specs.Runs.{optional, range_of}
use Rattle.cc_defs.specs.Signatures.{Signature}
use Rattle.cc_describe.specs.Places.{Files}
use Rattle.cc_general.specs.Accepted.{GeneralLogsAreAccepted}
use Rattle.cc_general.specs.GeneralRuns.{GeneralEnding, Complete, Asked, NoneAtAll, SpentAmong, SpentOver, GeneralRun, ReachesGeneralLimit, general_horizon}
use Rattle.cc_general.specs.Generals.{GeneralView, IsGeneralOf, nothing_told}
use Rattle.cc_general.specs.GeneralSteps.{GeneralSubject, IsRightRun, Steps}
use Rattle.cc_silent.specs.GeneralLogs.{general_header}
use Rattle.cc_ports.specs.Contents.{Contents}
use Rattle.cc_ports.specs.declared.desk.To.TheVariants as outputs
use Rattle.cc_ports.specs.Moments.{Moment}
use Rattle.cc_rivals.specs.Wides.{AreWideLawsOf}
use Rattle.cc_run.specs.Generals.{AreWideOf, generally_given}
use Rattle.cc_run.specs.Modes.Generally.{EndsGenerally, ListsGenerally, NamesWide, RefusesGenerally, general_promise, general_status, named_generally}
use Rattle.cc_list.specs.Promises.{IsEndStatus, Keeps, log_asked}
use Rattle.cc_list.specs.Stops.{Prints, outcome}
use Rattle.cc_list.specs.Wholes.{Whole}
use Rattle.cc_tell.specs.declared.status.Status.{Status}
use Rattle.cc_tell.specs.declared.status.Status.TheVariants as statuses
use Rattle.cc_tell.specs.declared.status.Stop.{Stop}
use Rattle.cc_tell.specs.Steps.{Begins}
use Rattle.cc_tell.specs.Givens.{given_to, nothing}
use Rattle.cc_tell_modes.specs.GeneralTexts.{general_status_behind}
use Rattle.cc_tell_modes.specs.RunsTold.{TellsRun}
use Rattle.cc_wide.specs.declared.ground.WideGroundLaw.{WideGroundLaw}
use Rattle.cc_wide.specs.WideLaws.{WideDescription, frame}
use Rattle.cc_words.specs.declared.asked.GeneralAsked.{GeneralAsked}
use Rattle.cc_words.specs.Requests.{Generally, ToListGenerally}
use Rattle.cc_words.specs.Words.{Text}
use Rattle.cc_tell.proofs.GivenSteps.{step_as}
use Rattle.cc_list.proofs.Outcomes.{known, prints_begun}
use Rattle.cc_words.specs.Views.{generally_by}
use Rattle.cc_run.proofs.GeneralTexts.{generally_ends}
use Rattle.cc_run.proofs.SurelyTold.{log_begins, with_err}

-- ---- what is asked

same_generally : (a b : Generally) → ToListGenerally a ≡ ToListGenerally b → a ≡ b
same_generally a b e = cc

pub generally_is : (asked : GeneralAsked) (generally : Generally) → ToListGenerally (generally_by asked) ≡ ToListGenerally generally → generally_by asked ≡ generally
generally_is asked generally e = same_generally (generally_by asked) generally e

-- a log that is begun as it is named
pub begins_generally : {X : Type 0} (asked : GeneralAsked) (generally : Generally) → generally_by asked ≡ generally → (names : List Text) (x y : Moment) (r : Result X Stop) →
    Begins (is_some asked.log) names x y r → Begins (is_some generally.log) names x y r
begins_generally asked generally is names x y r begins = subst (λ b. Begins b names x y r) (log_begins asked.log ∙ ap (λ (g : Generally). is_some g.log) is) begins

-- what is refused of it
pub refuses_asked : (o : Option Contents) (generally : Generally) (refusal : Refusal) (file : Text) →
    IfSome o (λ before. RefusesGenerally before.files (named_generally generally) refusal file) → IfSome o (λ before. (general_promise generally).Refuses before.files refusal file)
refuses_asked o generally refusal file =
    known o (λ before. RefusesGenerally before.files (named_generally generally) refusal file) (λ before. (general_promise generally).Refuses before.files refusal file)
    (λ before refused. refused)

-- the log that is named is the one that is asked for, however the run ends
pub general_log_named : (generally : Generally) (names : List Text) → names ≡ optional generally.log →
    (status : Status) → names ≡ log_asked (general_promise generally) status
general_log_named generally names named status = named

-- what a run is about
abbrev pub asked_of : WideDescription → Query → (count : Option ℕ) → (budget : ℕ) → GeneralSubject
asked_of w q count budget = record { description = w; query = q; count = count; budget = budget }

abbrev pub TellsGenerally : WideDescription → Query → (count : Option ℕ) → (budget : ℕ) → Moment → Moment → Result Status Stop → Type 0
TellsGenerally w q count budget x y r = TellsRun (IsRightRun (asked_of w q count budget)) (ReachesGeneralLimit w q count) (Steps (asked_of w q count budget)) general_status_behind
    (generally_given w q) nothing x y r

pub general_of : (general : GeneralView) (signature : Signature) (laws : List WideGroundLaw) (query : PlainGroundQuery) (w : WideDescription) (q : Query) → general.signature ≡ signature →
    general.laws ≡ laws → general.query ≡ query → AreWideOf signature laws query w q → IsGeneralOf general w q
general_of general signature laws query w q signature_is laws_is query_is of = record {
  laws = subst (λ (s : Signature). AreWideLawsOf s general.laws w) (sym signature_is) (subst (λ (l : List WideGroundLaw). AreWideLawsOf signature l w) (sym laws_is) of.laws_are);
  query = subst (λ (p : PlainGroundQuery). StandsForQuery p (frame w) q) (sym query_is) of.query_is;
}

-- the run that has told nothing gives the header of its log
pub header_is : (w : WideDescription) (q : Query) → given_to outputs.Log general_header ≡ generally_given w q nothing_told
header_is w q = λ i. record { out = []; err = []; log = sym (append-nil general_header) i }

-- ---- a run

status_may : (q : Query) (run : GeneralRun) (ending : GeneralEnding) → IsEndStatus (general_status q run ending)
status_may q run Complete = tt
status_may q run Asked = tt
status_may q run NoneAtAll = tt
status_may q run (SpentAmong section) = tt
status_may q run (SpentOver row section) = tt

generally_may : (w : WideDescription) (q : Query) (count : Option ℕ) (run : GeneralRun) (err : List ℕ) (ends : Option Status) (status : Status) → EndsGenerally w q count run err ends →
    ends ≡ Some status → IsEndStatus status
generally_may w q count run err None status how is = absurd cc
generally_may w q count run err (Some other) status (inl ended) is =
    let same : other ≡ status = cc in subst IsEndStatus (sym ended.3 ∙ same) (status_may q run ended.0)
generally_may w q count run err (Some other) status (inr refused) is =
    let same : other ≡ status = cc in subst IsEndStatus (sym refused.3 ∙ same) tt

pub prints_generally : {X : Type 0} (generally : Generally) (w : WideDescription) (q : Query) (names : List Text) (x y z : Moment) (b : Result X Stop) (v : X) (r : Result Status Stop) →
    GeneralLogsAreAccepted → (range_of q).1 ≤ most_steps → names ≡ optional generally.log →
    IfSome x.told (λ c. NamesWide c.files (named_generally generally) w q) → Begins (is_some generally.log) names x y b → b ≡ Ok v → TellsGenerally w q generally.count generally.budget y z r → Prints (general_promise generally) (is_some generally.log) [] x z r
prints_generally generally w q names x y z b v r law low named is at was told =
    let fair = told.fair.fair in
    let within = fair.within in
    let short : IsShort (general_horizon q told.run) = omega arith in
    let whole : Whole = record { given = record (generally_given w q told.run) { err = told.err }; begun = is_some generally.log; ends = told.ends } in
    let lists : (files : Files) → NamesWide files (named_generally generally) w q → ListsGenerally generally files whole = λ files is. record {
      description = w;
      query = q;
      named = is;
      run = told.run;
      fair = fair;
      out = refl;
      log = refl;
      accepted = λ unspent. law w q generally.count generally.budget told.run fair unspent short told.fair.writable;
      begun = refl;
      ends = ends;
    } in
    let names_are = general_log_named generally names named in
    prints_begun (general_promise generally) (is_some generally.log) names whole x y z b v r (names_are statuses.Right) (λ _. names_are (outcome r))
    (known x.told (λ c. NamesWide c.files (named_generally generally) w q) (λ c. Keeps (general_promise generally) c.files whole)
    (λ c is. inr (lists c.files is)) is)
    refl at was (step_as told.more whole.given y z r (told.grows ∙ with_err (generally_given w q told.run) told.err refl) told.step) told.ended (may r told.ended)
  where
    ends : EndsGenerally w q generally.count told.run told.err told.ends
    ends = generally_ends (asked_of w q generally.count generally.budget) told.run told.err told.ends told.how

    may : (r : Result Status Stop) → IfOk r (λ status. told.ends ≡ Some status) → IfOk r ((general_promise generally).MayEnd)
    may (Ok status) is = generally_may w q generally.count told.run told.err told.ends status ends is
    may (Err stop) is = tt

-- the same, asked by what the program has
pub told_as : (asked : GeneralAsked) (generally : Generally) → generally_by asked ≡ generally → (w : WideDescription) (q : Query) (x y : Moment) (r : Result Status Stop) →
    TellsGenerally w q asked.count asked.budget x y r → TellsGenerally w q generally.count generally.budget x y r
told_as asked generally is w q x y r tells = subst (λ (g : Generally). TellsGenerally w q g.count g.budget x y r) is tells

pub named_as : (o : Option Contents) (asked : GeneralAsked) (generally : Generally) → generally_by asked ≡ generally → (w : WideDescription) (q : Query) →
    IfSome o (λ c. NamesWide c.files (named_generally (generally_by asked)) w q) → IfSome o (λ c. NamesWide c.files (named_generally generally) w q)
named_as o asked generally is w q named = subst (λ (g : Generally). IfSome o (λ c. NamesWide c.files (named_generally g) w q)) is named
