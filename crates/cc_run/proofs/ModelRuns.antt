-- A run that lists models, or judges a log of them, from its steps.
use Rattle.std.proofs.Common.{◌≡◌, ◌∙◌, refl, sym, ap, subst, ℕ, zero, suc, ◌<◌, ◌≤◌, Bool, true, false, List, [], ◌∷◌, length, Option, Some, None, Result, Ok, Err, IfSome, IfOk, inl, inr, append-nil, arith}
use Rattle.std.specs.Prelude.{is_some, ◌||◌}
use Rattle.cc_clauses.specs.RowsOf.{IsRowOf}
use Rattle.cc_clauses.specs.Tells.{Tells}
use Rattle.cc_defs.specs.declared.log.EndWord.{EndWord}
use Rattle.cc_defs.specs.declared.log.EndWord.TheVariants as words
use Rattle.cc_defs.specs.declared.log.LogVerdict.{LogVerdict}
use Rattle.cc_defs.specs.declared.log.LogVerdict.TheVariants as verdicts
use Rattle.cc_defs.specs.declared.refusal.LimitAt.TheVariants as limits
use Rattle.cc_defs.specs.declared.refusal.Refusal.{Refusal}
use Rattle.cc_defs.specs.Limits.{limit_number, most_clauses, most_cnf_variables, most_variables}
use Rattle.cc_defs.specs.Logs.{IsVerdict}
use Rattle.cc_defs.specs.Refusals.{past}
use Rattle.cc_defs.specs.Runs.{Section, optional, rows_of}
use Rattle.cc_defs.specs.Sections.{Axioms}
use Rattle.cc_describe.specs.Places.{Files}
use Rattle.cc_dimacs.specs.Cnfs.{PlainCnf, IsModelOf, cnf_axioms, twos}
use Rattle.cc_judge.specs.Single.{BlocksAll, subject_over}
use Rattle.cc_ports.specs.Contents.{Contents}
use Rattle.cc_ports.specs.Moments.{Moment}
use Rattle.cc_print.specs.Models.{models_verdict_line}
use Rattle.cc_lists.specs.Subjects.{AreGoodAxioms}
use Rattle.cc_run.specs.CnfForms.{IsFormOf}
use Rattle.cc_run.specs.Modes.Checking.{verdict_status}
use Rattle.cc_run.proofs.LogsJudged.{prints_judged}
use Rattle.cc_run.specs.Judging.{MayEndJudging, TellsVerdict}
use Rattle.cc_run.specs.Modes.CheckingModels.{NamesCnf, models_checking_promise, models_judging}
use Rattle.cc_run.specs.Modes.Modelling.{EndsModels, IsCnfIn, Models, RefusesCnf, modelling_promise}
use Rattle.cc_run.specs.ModelsTold.{AreWithin, EndsListing, TellsListing, told_of}
use Rattle.cc_list.specs.Promises.{IsEndStatus, Keeps, log_asked}
use Rattle.cc_list.specs.Stops.{Prints, outcome}
use Rattle.cc_list.specs.Wholes.{Whole}
use Rattle.cc_search.proofs.Moving.{told_moved}
use Rattle.cc_tell.specs.declared.status.Status.{Status}
use Rattle.cc_tell.specs.declared.status.Status.TheVariants as statuses
use Rattle.cc_tell.specs.declared.status.Stop.{Stop}
use Rattle.cc_tell_modes.specs.ModelTexts.{models_status}
use Rattle.cc_tell.specs.Steps.{Begins, Step}
use Rattle.cc_tell.specs.Givens.{nothing, only_out}
use Rattle.cc_words.specs.declared.asked.Asked.TheVariants as requests
use Rattle.cc_words.specs.declared.asked.CheckModelsAsked.{CheckModelsAsked}
use Rattle.cc_words.specs.declared.asked.ModelsAsked.{ModelsAsked}
use Rattle.cc_words.specs.Requests.{ModelChecking, Modelling, ToCheckModels, ToModel}
use Rattle.cc_words.specs.Views.{modelling_by, models_checking_by, plain_request, plain_text}
use Rattle.cc_words.specs.Words.{Text}
use Rattle.cc_tell.proofs.Calls.{called_on}
use Rattle.cc_tell.proofs.GivenSteps.{calm_both, rose_later, step_as}
use Rattle.cc_list.proofs.Callings.{first_none}
use Rattle.cc_list.proofs.NumberedSteps.{section_low}
use Rattle.cc_list.proofs.Outcomes.{Comes, known, left, prints_whole, keeps_begun, told_search, whole_comes}

-- ---- what is asked

same_modelling : (a b : Modelling) → ToModel a ≡ ToModel b → a ≡ b
same_modelling a b e = cc

same_checking : (a b : ModelChecking) → ToCheckModels a ≡ ToCheckModels b → a ≡ b
same_checking a b e = cc

pub modelling_is : (asked : ModelsAsked) (modelling : Modelling) → plain_request (requests.Models asked) ≡ ToModel modelling → modelling_by asked ≡ modelling
modelling_is asked modelling e = same_modelling (modelling_by asked) modelling e

pub checked_is : (asked : CheckModelsAsked) (checking : ModelChecking) → plain_request (requests.CheckModels asked) ≡ ToCheckModels checking → models_checking_by asked ≡ checking
checked_is asked checking e = same_checking (models_checking_by asked) checking e

pub always : (o : Option Contents) {P : Type 0} → P → IfSome o (λ _. P)
always None p = tt
always (Some c) p = p

pub cnf_as : (o : Option Contents) (a b : Text) (cnf : PlainCnf) → a ≡ b → IfSome o (λ c. IsCnfIn c.files a cnf) → IfSome o (λ c. IsCnfIn c.files b cnf)
cnf_as o a b cnf same is = subst (λ (f : Text). IfSome o (λ c. IsCnfIn c.files f cnf)) same is

-- ---- what is refused

pub models_refuse : (o : Option Contents) (modelling : Modelling) (refusal : Refusal) (file named name : Text) →
    file ≡ modelling.file → name ≡ named → IfSome o (λ c. RefusesCnf c.files file refusal named) → IfSome o (λ c. (modelling_promise modelling).Refuses c.files refusal name)
models_refuse o modelling refusal file named name same said refused =
    known o (λ c. RefusesCnf c.files file refusal named) (λ c. (modelling_promise modelling).Refuses c.files refusal name)
    (λ c is. (subst (λ (f : Text). RefusesCnf c.files f refusal name) same (subst (λ (n : Text). RefusesCnf c.files file refusal n) (sym said) is))) refused

pub checks_refuse : (o : Option Contents) (checking : ModelChecking) (refusal : Refusal) (file named name : Text) →
    file ≡ checking.file → name ≡ named → IfSome o (λ c. RefusesCnf c.files file refusal named) → IfSome o (λ c. (models_checking_promise checking).Refuses c.files refusal name)
checks_refuse o checking refusal file named name same said refused =
    known o (λ c. RefusesCnf c.files file refusal named) (λ c. (models_checking_promise checking).Refuses c.files refusal name)
    (λ c is. (inl (subst (λ (f : Text). RefusesCnf c.files f refusal name) same (subst (λ (n : Text). RefusesCnf c.files file refusal n) (sym said) is)))) refused

-- ---- a verdict

pub verdict_may : (verdict : LogVerdict) → MayEndJudging (verdict_status verdict)
verdict_may (verdicts.Accepted first last blocked) = tt
verdict_may (verdicts.Refused line reason) = tt

pub blocked_models : (cnf : PlainCnf) (form : Axioms) (bytes : List ℕ) (verdict : LogVerdict) → IsFormOf cnf form → BlocksAll (IsRowOf form.sizes form.clauses) bytes verdict →
    BlocksAll (IsModelOf cnf) bytes verdict
blocked_models cnf form bytes (verdicts.Accepted first last blocked) is all = λ row model. all row ((is.tells.rows row).1 model)
blocked_models cnf form bytes (verdicts.Refused line reason) is all = tt

-- the files that are opened
pub opens_checked : (o : Option Contents) (checking : ModelChecking) (file log : Text) → file ≡ checking.file → log ≡ checking.log →
    IfSome o (λ c. (models_checking_promise checking).Opens c.files (file ∷ log ∷ []))
opens_checked o checking file log same named = always o (checking.file ∷ [], refl, cc)

-- the log is judged that is named
pub judged_as : (checking : ModelChecking) (log : Text) (cnf : PlainCnf) → log ≡ checking.log → (x z : Moment) (r : Result Status Stop) → IfSome x.told (λ c. IsCnfIn c.files checking.file cnf) →
    TellsVerdict (models_judging.Is cnf) (models_judging.Passes cnf) models_judging.line models_judging.status log x z r → Prints (models_checking_promise checking) false (log ∷ []) x z r
judged_as checking log cnf same x z r is tells =
    subst (λ (l : Text). Prints (models_checking_promise checking) false (l ∷ []) x z r) (sym same)
    (prints_judged models_judging (λ files. RefusesCnf files checking.file) (NamesCnf checking) (λ files opened. opened ≡ checking.file ∷ []) checking.log verdict_may cnf x z r is
    (subst (λ (l : Text). TellsVerdict (models_judging.Is cnf) (models_judging.Passes cnf) models_judging.line models_judging.status l x z r) same tells))

-- ---- a listing

length_twos : (count : ℕ) → length (twos count) ≡ count
length_twos zero = refl
length_twos (suc count) = ap suc (length_twos count)

pub form_within : (cnf : PlainCnf) (form : Axioms) (budget : ℕ) → IsFormOf cnf form → AreGoodAxioms form → budget ≤ 2000000 → AreWithin form budget
form_within cnf form budget is good spent =
    let axioms = cnf_axioms cnf in
    let low : (axioms.variables ≤ most_variables) × (length axioms.clauses ≤ most_clauses) = section_low None (record { variables = axioms.variables; clauses = axioms.clauses }) is.within in
    let long = length_twos cnf.variables in
    let most = is.variables in
    let short : length axioms.sizes ≤ most_cnf_variables = omega arith in
    record {
      good = good;
      variables = subst (λ (a : Axioms). a.variables ≤ most_variables) (sym is.form_is) low.0;
      few = subst (λ (a : Axioms). length a.clauses ≤ most_clauses) (sym is.form_is) low.1;
      short = subst (λ (a : Axioms). length a.sizes ≤ most_cnf_variables) (sym is.form_is) short;
      spent = spent;
    }

status_may : (listed : ℕ) (word : EndWord) → IsEndStatus (models_status listed word)
status_may zero words.Empty = tt
status_may zero words.Found = tt
status_may zero words.Spent = tt
status_may (suc listed) words.Empty = tt
status_may (suc listed) words.Found = tt
status_may (suc listed) words.Spent = tt

listing_may : (axioms : Axioms) (section : Section) (err : List ℕ) (ends : Option Status) (status : Status) → EndsListing axioms section err ends → ends ≡ Some status → IsEndStatus status
listing_may axioms section err None status how is = absurd cc
listing_may axioms section err (Some other) status (inl ended) is =
    let same : other ≡ status = cc in subst IsEndStatus (sym ended.3 ∙ same) (status_may (length (rows_of section)) ended.0)
listing_may axioms section err (Some other) status (inr refused) is =
    let same : other ≡ status = cc in subst IsEndStatus (sym refused.3 ∙ same) tt

listing_ends : (cnf : PlainCnf) (section : Section) (err : List ℕ) (ends : Option Status) → EndsListing (cnf_axioms cnf) section err ends → EndsModels cnf section err ends
listing_ends cnf section err None how = how
listing_ends cnf section err (Some status) how = how

-- the log that is named is the one that is asked for, however the run ends
pub models_log : (modelling : Modelling) (names : List Text) → names ≡ optional modelling.log →
    (status : Status) → names ≡ log_asked (modelling_promise modelling) status
models_log modelling names named status = named

pub prints_listing : {X : Type 0} (modelling : Modelling) (cnf : PlainCnf) (form : Axioms) (names : List Text) (x y z : Moment) (b : Result X Stop) (v : X) (r : Result Status Stop) →
    names ≡ optional modelling.log → IsFormOf cnf form → IfSome x.told (λ c. IsCnfIn c.files modelling.file cnf) →
    Begins (is_some modelling.log) names x y b → b ≡ Ok v → TellsListing form modelling.form modelling.count modelling.budget nothing y z r →
    Prints (modelling_promise modelling) (is_some modelling.log) [] x z r
prints_listing {X = X} modelling cnf form names x y z b v r named of is at was listing =
    let begins = is_some modelling.log in
    let made : Result X Stop = Ok v in
    let done : Begins begins names x y made = subst (λ b. Begins begins names x y b) was at in
    let axioms = cnf_axioms cnf in
    let told : TellsListing axioms modelling.form modelling.count modelling.budget nothing y z r =
    subst (λ (a : Axioms). TellsListing a modelling.form modelling.count modelling.budget nothing y z r) of.form_is listing in
    let more = told.more in
    let whole : Whole = record { given = record (told_of axioms modelling.form told.section) { err = more.err }; begun = begins; ends = told.ends } in
    let step : Step whole.given y z r = step_as more.given whole.given y z r more.grows more.step in
    let models : (files : Files) → IsCnfIn files modelling.file cnf → Models modelling files whole = λ files is. record {
      cnf = cnf;
      is = is;
      section = told.section;
      tells = told_moved axioms (IsModelOf cnf) (subst (λ (a : Axioms). Tells a (IsModelOf cnf)) of.form_is of.tells) modelling.count modelling.budget told.section more.tells;
      few = more.few;
      out = refl;
      log = refl;
      begun = refl;
      ends = listing_ends cnf told.section more.err told.ends more.how;
    } in
    let names_are = models_log modelling names named in
    record {
      told = told_search (modelling_promise modelling) step.given x.told y.told z.told x.begun z.begun r
          (keeps_begun x.told y.told begins x.begun z.begun (begun_as begins x.begun y.begun z.begun done.begun step.moves.begun) done.told) step.moves.told
          (known x.told (λ c. IsCnfIn c.files modelling.file cnf) (λ before. x.begun ≡ false → Comes before.files (modelling_promise modelling) (left step.given z.begun) r)
          (λ before is none. whole_comes before.files (modelling_promise modelling) whole step.given z.begun r
          (inr (models before.files is))
          (sym (begun_as begins x.begun y.begun z.begun done.begun step.moves.begun none)) step.how told.ended) is);
      ends = may r listing.ended;
      asks = record {
        opened = [];
        begun = names;
        called = called_on [] names x y z done.called step.moves.called;
        opened_first = first_none [];
        begun_first = ([], sym (names_are statuses.Right) ∙ sym (append-nil names));
        whole = λ _. (refl, names_are (outcome r));
      };
      calm = λ ok. calm_both x y z (done.calm refl) (step.moves.calm ok);
      begun = λ none. step.moves.begun ∙ (done.begun ∙ ap (λ w. w || x.begun) none);
      reads = omega (arith, done.reads, step.moves.reads);
      writes = omega (arith, done.writes, step.moves.writes);
      read_fault = λ fault. absurd (step.moves.no_read_fault fault);
      write_fault = λ fault. rose_later x.writes y.writes z.writes done.writes (step.moves.write_fault fault);
    }
  where
    begun_as : (named was at begun : Bool) → at ≡ (named || was) → begun ≡ at → was ≡ false → named ≡ begun
    begun_as true was at begun one two none = sym (two ∙ one)
    begun_as false was at begun one two none = sym (two ∙ (one ∙ none))

    may : (r : Result Status Stop) → IfOk r (λ status. listing.ends ≡ Some status) → IfOk r ((modelling_promise modelling).MayEnd)
    may (Ok status) is = listing_may form listing.section listing.more.err listing.ends status listing.more.how is
    may (Err stop) is = tt

-- ---- what is asked, as the program has it

pub begins_models : {X : Type 0} (asked : ModelsAsked) (modelling : Modelling) → modelling_by asked ≡ modelling → (names : List Text) (x y : Moment) (r : Result X Stop) →
    Begins (is_some asked.log) names x y r → Begins (is_some modelling.log) names x y r
begins_models asked modelling is names x y r begins = subst (λ b. Begins b names x y r) (named asked.log ∙ ap (λ (m : Modelling). is_some m.log) is) begins
  where
    named : (o : Option _) → is_some o ≡ is_some (plain_text o)
    named None = refl
    named (Some text) = refl

pub listing_as : (asked : ModelsAsked) (modelling : Modelling) → modelling_by asked ≡ modelling → (axioms : Axioms) (x y : Moment) (r : Result Status Stop) →
    TellsListing axioms asked.form asked.count asked.budget nothing x y r → TellsListing axioms modelling.form modelling.count modelling.budget nothing x y r
listing_as asked modelling is axioms x y r tells = subst (λ (m : Modelling). TellsListing axioms m.form m.count m.budget nothing x y r) is tells
