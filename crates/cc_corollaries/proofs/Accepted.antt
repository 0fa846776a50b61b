-- A log that was accepted: what was judged, and what the verdict is worth.
use Rattle.std.proofs.Common.{◌≡◌, ◌∙◌, refl, sym, ap, subst, ℕ, ◌≤◌, List, Option, None, inl, inr}
use Rattle.std.proofs.lemmas.Option.{same_Some}
use Rattle.std.specs.Prelude.{Contains, IsFalse, IsNone}
use Rattle.cc_check.specs.declared.silent.SilentVerdict.{SilentVerdict}
use Rattle.cc_check.specs.declared.silent.SilentVerdict.TheVariants as silents
use Rattle.cc_corollaries.specs.AcceptedLogs.{AcceptedMeansForEver, AcceptedMeansImpossible, AcceptedMeansModels, AcceptedMeansNoOtherModels, AcceptedMeansNoOthers}
use Rattle.cc_corollaries.specs.Corollaries.{MeetsThem}
use Rattle.cc_corollaries.proofs.CnfRuns.{same_cnf}
use Rattle.cc_corollaries.proofs.Ended.{ended_so, no_key_named, not_refused, same_query, task_named}
use Rattle.cc_corollaries.proofs.Generally.{same_wide}
use Rattle.cc_corollaries.proofs.Nones.{claim_met, none_meets, unclaimed}
use Rattle.cc_corollaries.proofs.Surely.{query_named_so}
use Rattle.cc_defs.specs.declared.lists.Key.{Key}
use Rattle.cc_defs.specs.declared.log.LogVerdict.{LogVerdict}
use Rattle.cc_defs.specs.declared.log.LogVerdict.TheVariants as verdicts
use Rattle.cc_defs.specs.declared.refusal.Refusal.{Refusal}
use Rattle.cc_defs.specs.Description.{Description}
use Rattle.cc_defs.specs.Histories.{IsHistory, condition_holds}
use Rattle.cc_defs.specs.LogTexts.{lines_in}
use Rattle.cc_defs.specs.Resolved.{Query}
use Rattle.cc_describe.specs.Places.{Files, OneListOfPlaces}
use Rattle.cc_dimacs.specs.Cnfs.{PlainCnf, IsModelOf}
use Rattle.cc_dimacs.specs.Laws.{OneCnf}
use Rattle.cc_induction.specs.Induction.{Never}
use Rattle.cc_judge.specs.Judging.{BlocksHistories, IsBlockedIn}
use Rattle.cc_judge.specs.Single.{BlocksAll}
use Rattle.cc_list.specs.Answers.{Ended, left_in}
use Rattle.cc_list.specs.Names.{IsAnswer}
use Rattle.cc_list.specs.Wholes.{Left}
use Rattle.cc_print.specs.Verdicts.{verdict_line}
use Rattle.cc_run.specs.Judging.{Judging, NamesLog, judging_promise}
use Rattle.cc_run.specs.Modes.Checking.{NamesTask, query_judging, verdict_status}
use Rattle.cc_run.specs.Modes.CheckingForever.{NamesForever, forever_judging, named_to_check}
use Rattle.cc_run.specs.Modes.CheckingGeneral.{NamesGeneral, general_judging, named_for_general}
use Rattle.cc_run.specs.Modes.CheckingModels.{NamesCnf, models_judging}
use Rattle.cc_run.specs.Modes.CheckingSure.{NamesSure, sure_judging}
use Rattle.cc_run.specs.Modes.CheckingSure as sure_logs
use Rattle.cc_run.specs.Naming.{named_in}
use Rattle.cc_silent.specs.declared.forever_verdict.ForeverVerdict.{ForeverVerdict}
use Rattle.cc_silent.specs.declared.forever_verdict.ForeverVerdict.TheVariants as forevers
use Rattle.cc_silent.specs.declared.sure.AtomHeading.{AtomHeading}
use Rattle.cc_silent.specs.ForeverLogs.{ProvesNever, as_silent}
use Rattle.cc_silent.specs.GeneralLogs.{IsRivalsHeading, ProvesHistories}
use Rattle.cc_silent.specs.Sought.{HasValue}
use Rattle.cc_silent.specs.SureLogs.{IsAtomHeading, RefutesAtoms}
use Rattle.cc_tell.specs.declared.status.Status.{Status}
use Rattle.cc_tell.specs.declared.status.Status.TheVariants as statuses
use Rattle.cc_tell.specs.Givens.{Given}
use Rattle.cc_tell_modes.specs.ForeverTexts.{forever_verdict_status}
use Rattle.cc_tell_modes.specs.SilentVerdicts.{silent_verdict_status}
use Rattle.cc_wide.specs.WideLaws.{WideDescription}
use Rattle.cc_wide.specs.WideRules.{IsGeneral}
use Rattle.cc_words.specs.Requests.{ToCheck, ToCheckForever, ToCheckGeneral, ToCheckModels, ToCheckSure}
use Rattle.cc_words.specs.Words.{Text}

-- ---- what was judged

-- a log of a subject, its verdict, and what was printed of that
record WasJudged {Subject Verdict : Type 0} (judging : Judging Subject Verdict) (Names : Files → Subject → Type 0) (log : Text) (files : Files) (status : Status) (out : List ℕ) : Type 0 where
  subject : Subject
  bytes : List ℕ
  named : NamesLog Names log files subject bytes
  verdict : Verdict
  judged : judging.Is subject bytes verdict
  out_is : out ≡ judging.line verdict
  status_is : status ≡ judging.status verdict

was_judged : {Subject Verdict : Type 0} (judging : Judging Subject Verdict) (Refuses : Files → Refusal → Text → Type 0) (Names : Files → Subject → Type 0)
    (Opens : Files → List Text → Type 0) (log : Text) (files : Files) (status : Status) (left : Left) → IsAnswer status →
    Ended files (judging_promise judging Refuses Names Opens log) status left → WasJudged judging Names log files status left.given.out
was_judged judging Refuses Names Opens log files status left answer ended = elim ended.gives [
  | inl refused ↦ not_refused status answer (same_Some status statuses.Refused (sym ended.ends ∙ refused.ends))
  | inr judges ↦ record {
    subject = judges.subject;
    bytes = judges.bytes;
    named = judges.named;
    verdict = judges.verdict;
    judged = judges.judged;
    out_is = ap (λ (l : Left). l.given.out) ended.left_is ∙ ap (λ (g : Given). g.out) judges.given;
    status_is = same_Some status (judging.status judges.verdict) (sym ended.ends ∙ judges.ends);
  }
]

-- ---- check mode

-- the horizons that this line tells have no other histories than those which the log blocks
abbrev NoOthers : List ℕ → Description → Query → List ℕ → Type 0
NoOthers out d q bytes =
    (first last blocked : ℕ) × (out ≡ verdict_line (verdicts.Accepted first last blocked))
    × ((horizon : ℕ) (row : List ℕ) → first ≤ horizon → horizon ≤ last → IsHistory d q horizon None row → IsBlockedIn bytes horizon row)

blocks_all : (d : Description) (q : Query) (bytes out : List ℕ) (verdict : LogVerdict) → statuses.Right ≡ verdict_status verdict → out ≡ verdict_line verdict →
    BlocksHistories d q None bytes verdict → NoOthers out d q bytes
blocks_all d q bytes out (verdicts.Accepted first last blocked) code line blocks = (first, last, blocked, line, blocks)
blocks_all d q bytes out (verdicts.Refused at reason) code line blocks = absurd cc

pub no_others : OneListOfPlaces → AcceptedMeansNoOthers
no_others one d q bytes after is =
    let files = is.before.files in
    let checking = is.checking in
    let left = left_in after is.ran.answered.log is.ran.begun in
    let was = was_judged query_judging _ (NamesTask checking) _ checking.log files statuses.Right left tt (ended_so (ToCheck checking) is.before after statuses.Right tt is.ran) in
    let task = was.subject in
    let none = no_key_named task.description task.query checking.after task.ask.after is.no_key was.named.is.key in
    let (same_d, same_q) = same_query one files (named_in checking) task.description d task.query q (task_named files (named_in checking) task was.named.is) is.named in
    let same_bytes = same_Some was.bytes bytes (sym was.named.there ∙ is.log) in
    subst (λ (d : Description). NoOthers after.out d q bytes) same_d
    (subst (λ (q : Query). NoOthers after.out task.description q bytes) same_q
    (subst (NoOthers after.out task.description task.query) same_bytes
    (blocks_all task.description task.query was.bytes after.out was.verdict was.status_is was.out_is
    (subst (λ (key : Option Key). BlocksHistories task.description task.query key was.bytes was.verdict) none was.judged.blocks))))

-- ---- forevercheck mode

never_of : (d : Description) (q : Query) (verdict : ForeverVerdict) → statuses.Right ≡ forever_verdict_status verdict → ProvesNever d q (as_silent verdict) → Never d q
never_of d q (forevers.Accepted steps) code proves = proves _ refl
never_of d q (forevers.Refused line reason) code proves = absurd cc

pub for_ever : OneListOfPlaces → AcceptedMeansForEver
for_ever one d q after is horizon least =
    let files = is.before.files in
    let checking = is.checking in
    let left = left_in after is.ran.answered.log is.ran.begun in
    let was = was_judged forever_judging _ (NamesForever checking) _ checking.log files statuses.Right left tt (ended_so (ToCheckForever checking) is.before after statuses.Right tt is.ran) in
    let of = was.subject in
    let (same_d, same_q) = same_query one files (named_to_check checking) of.0 d of.1 q was.named.is is.named in
    let never = subst (λ (d : Description). Never d q) same_d
    (subst (Never of.0) same_q (never_of of.0 of.1 was.verdict.found was.status_is was.judged.proves)) in
    let none = never horizon least in
    (λ claim. claim_met d q horizon none, λ no_claim. none_meets d q horizon no_claim none)

-- ---- surecheck mode

-- no path that meets the conditions has a value that a heading of the log names
abbrev NoneNamed : Description → Query → List ℕ → Type 0
NoneNamed d q bytes = (line : List ℕ) (named : AtomHeading) → Contains (lines_in bytes) line → IsAtomHeading line named →
    (row : List ℕ) → MeetsThem d q named.horizon row → HasValue named.position named.value row → ⊥

refuted : (d : Description) (q : Query) (bytes : List ℕ) (verdict : SilentVerdict) → IsNone q.claim → statuses.Right ≡ silent_verdict_status verdict → RefutesAtoms d q bytes verdict →
    NoneNamed d q bytes
refuted d q bytes (silents.Accepted sections) no_claim code refutes line named there is row meets has =
    refutes sections refl named (subst (λ (l : List ℕ). Contains (lines_in bytes) l) is.spelled there) (subst (λ (l : List ℕ). IsAtomHeading l named) is.spelled is) row
    (record { path = meets.0; meets = record { conditions = meets.1; claim = unclaimed (λ claim. IsFalse (condition_holds d named.horizon row claim)) q.claim no_claim }; after = tt }, has)
refuted d q bytes (silents.Refused at reason) no_claim code refutes line named there is row meets has = absurd cc

pub impossible : OneListOfPlaces → AcceptedMeansImpossible
impossible one d q bytes after is =
    let files = is.before.files in
    let checking = is.checking in
    let words = sure_logs.named_to_check checking in
    let left = left_in after is.ran.answered.log is.ran.begun in
    let was = was_judged sure_judging _ (NamesSure checking) _ checking.log files statuses.Right left tt (ended_so (ToCheckSure checking) is.before after statuses.Right tt is.ran) in
    let of = was.subject in
    let (same_d, same_q) = same_query one files words of.0 d of.1 q (query_named_so files words of.0 of.1 was.named.is) (query_named_so files words d q is.named) in
    let same_bytes = same_Some was.bytes bytes (sym was.named.there ∙ is.log) in
    subst (λ (d : Description). NoneNamed d q bytes) same_d
    (subst (λ (q : Query). NoneNamed of.0 q bytes) same_q
    (subst (NoneNamed of.0 of.1) same_bytes
    (refuted of.0 of.1 was.bytes was.verdict was.named.is.claim was.status_is was.judged.refutes)))

-- ---- generalcheck mode

-- each row that a heading of the log names is a model that meets the query
abbrev AllNamed : WideDescription → Query → List ℕ → Type 0
AllNamed w q bytes = (line : List ℕ) (named : Key) → Contains (lines_in bytes) line → IsRivalsHeading line named → IsGeneral w q named.horizon named.row

proved : (w : WideDescription) (q : Query) (bytes : List ℕ) (verdict : SilentVerdict) → statuses.Right ≡ silent_verdict_status verdict → ProvesHistories w q bytes verdict → AllNamed w q bytes
proved w q bytes (silents.Accepted sections) code proves line named there is =
    proves sections refl named (subst (λ (l : List ℕ). Contains (lines_in bytes) l) is.spelled there) (subst (λ (l : List ℕ). IsRivalsHeading l named) is.spelled is)
proved w q bytes (silents.Refused at reason) code proves line named there is = absurd cc

pub models : OneListOfPlaces → AcceptedMeansModels
models one w q bytes after is =
    let files = is.before.files in
    let checking = is.checking in
    let left = left_in after is.ran.answered.log is.ran.begun in
    let was = was_judged general_judging _ (NamesGeneral checking) _ checking.log files statuses.Right left tt (ended_so (ToCheckGeneral checking) is.before after statuses.Right tt is.ran) in
    let of = was.subject in
    let (same_w, same_q) = same_wide one files (named_for_general checking) of.0 w of.1 q was.named.is is.named in
    let same_bytes = same_Some was.bytes bytes (sym was.named.there ∙ is.log) in
    subst (λ (w : WideDescription). AllNamed w q bytes) same_w
    (subst (λ (q : Query). AllNamed of.0 q bytes) same_q
    (subst (AllNamed of.0 of.1) same_bytes (proved of.0 of.1 was.bytes was.verdict was.status_is was.judged.proves)))

-- ---- modelscheck mode

abbrev NoOtherModels : PlainCnf → List ℕ → Type 0
NoOtherModels cnf bytes = (model : List ℕ) → IsModelOf cnf model → IsBlockedIn bytes 0 model

blocks_models : (cnf : PlainCnf) (bytes : List ℕ) (verdict : LogVerdict) → statuses.Right ≡ verdict_status verdict → BlocksAll (IsModelOf cnf) bytes verdict → NoOtherModels cnf bytes
blocks_models cnf bytes (verdicts.Accepted first last blocked) code blocks = blocks
blocks_models cnf bytes (verdicts.Refused at reason) code blocks = absurd cc

pub no_other_models : OneCnf → AcceptedMeansNoOtherModels
no_other_models unique cnf bytes after is =
    let files = is.before.files in
    let checking = is.checking in
    let left = left_in after is.ran.answered.log is.ran.begun in
    let was = was_judged models_judging _ (NamesCnf checking) _ checking.log files statuses.Right left tt (ended_so (ToCheckModels checking) is.before after statuses.Right tt is.ran) in
    let same_bytes = same_Some was.bytes bytes (sym was.named.there ∙ is.log) in
    subst (λ (cnf : PlainCnf). NoOtherModels cnf bytes) (same_cnf unique files checking.file was.subject cnf was.named.is is.named)
    (subst (NoOtherModels was.subject) same_bytes (blocks_models was.subject was.bytes was.verdict was.status_is was.judged.blocks))
