-- A log that is judged, from the steps of its reading and of its verdict.
use Rattle.std.proofs.Common.{◌≡◌, ◌∙◌, refl, sym, ap, subst, ℕ, ◌<◌, ◌≤◌, false, List, [], ◌∷◌, length, Option, Some, None, Result, Ok, Err, IfSome, IfOk, inl, inr, option_map}
use Rattle.std.specs.Prelude.{IfErr, IsErrAnd}
use Rattle.cc_check.specs.declared.silent.SilentVerdict.{SilentVerdict}
use Rattle.cc_check.specs.declared.silent.SilentVerdict.TheVariants as silent_verdicts
use Rattle.cc_defs.specs.declared.refusal.Fault.{Fault}
use Rattle.cc_defs.specs.declared.refusal.Fault.TheVariants as faults
use Rattle.cc_defs.specs.declared.refusal.LimitAt.TheVariants as limits
use Rattle.cc_defs.specs.declared.refusal.Refusal.{Refusal}
use Rattle.cc_defs.specs.Limits.{limit_number}
use Rattle.cc_defs.specs.Refusals.{past}
use Rattle.cc_describe.specs.Places.{Files}
use Rattle.cc_list.proofs.Callings.{called_reads, first_all, memory_not_read, memory_not_write, read_not_write}
use Rattle.cc_list.proofs.Outcomes.{asks_no_more, files_stay, known, prints_after_read, prints_lacking, prints_refusal, prints_stopped, prints_whole}
use Rattle.cc_list.specs.Promises.{Keeps, Promise}
use Rattle.cc_list.specs.Stops.{Prints}
use Rattle.cc_list.specs.Wholes.{Whole}
use Rattle.cc_ports.specs.Calls.{AreReadings, Call, with_calls}
use Rattle.cc_ports.specs.Contents.{Contents, Rose, with_rest}
use Rattle.cc_ports.specs.Moments.{Moment}
use Rattle.cc_run.specs.Judging.{EndsReading, IsLogFault, Judges, Judging, MayEndJudging, NamesLog, TellsJudged, TellsVerdict, judging_promise}
use Rattle.cc_tell.specs.declared.status.Status.{Status}
use Rattle.cc_tell.specs.declared.status.Status.TheVariants as statuses
use Rattle.cc_tell.specs.declared.status.Stop.{Stop}
use Rattle.cc_tell.specs.declared.status.Stop.TheVariants as stops
use Rattle.cc_tell_modes.specs.SilentVerdicts.{silent_verdict_status}
use Rattle.cc_tell.specs.ErrLines.{refusal_text}
use Rattle.cc_tell.specs.Givens.{only_err, only_out}
use Rattle.cc_tell.specs.Steps.{IsCalm, Step}
use Rattle.cc_words.specs.Words.{Text}

-- ---- the reading of a log

module _ {Verdict : Type 0} (Is : List ℕ → Verdict → Type 0) (Passes : List ℕ → Refusal → Type 0) (line : Verdict → List ℕ) (status : Verdict → Status) (log : Text) (most : ℕ) (x y : Moment) where
  pub reads_log : (z : Moment) (r : Result Status Stop) → ((rest : List ℕ) × (y.told ≡ option_map (with_rest rest) x.told)) → y.begun ≡ x.begun →
      ((more : List Call) × AreReadings log most more × (y.calls ≡ with_calls more x.calls)) → x.reads ≤ y.reads → x.writes ≤ y.writes → EndsReading Is Passes line status log x y z r →
      TellsVerdict Is Passes line status log x z r
  reads_log z r after begun calls reads writes how = record {
    read = y;
    rest = after.0;
    told = after.1;
    begun = begun;
    reads = reads;
    writes = writes;
    called = called_reads log most x y calls;
    how = how;
  }

  -- the bytes that were read are judged
  pub judges_read : (bytes found : List ℕ) (z : Moment) (r : Result Status Stop) → bytes ≡ found → most ≡ limit_number limits.LogBytes → IfSome x.told (λ c. c.files log ≡ Some found) →
      length found ≤ most → IsCalm x y → TellsJudged (Is bytes) (Passes bytes) line status y z r → EndsReading Is Passes line status log x y z r
  judges_read bytes found z r same most_is there few calm judged = inl (
    bytes,
    subst (λ (b : List ℕ). IfSome x.told (λ c. c.files log ≡ Some b)) (sym same) there,
    subst (λ (b : List ℕ). length b ≤ limit_number limits.LogBytes) (sym same) (subst (λ (n : ℕ). length found ≤ n) most_is few),
    calm,
    judged,
  )

  -- it is too long
  pub is_long : (refusal : Refusal) (z : Moment) (r : Result Status Stop) → most ≡ limit_number limits.LogBytes → refusal ≡ past limits.LogBytes →
      IfSome x.told (λ c. (bytes : List ℕ) × (c.files log ≡ Some bytes) × (most < length bytes)) → IsCalm x y → Step (only_err (refusal_text refusal [])) y z r →
      IfOk r (λ ended. ended ≡ statuses.Refused) → EndsReading Is Passes line status log x y z r
  is_long refusal z r most_is past_is long calm step ended = inr (inl (
    subst (λ (n : ℕ). IfSome x.told (λ c. (bytes : List ℕ) × (c.files log ≡ Some bytes) × (n < length bytes))) most_is long,
    calm,
    subst (λ (f : Refusal). Step (only_err (refusal_text f [])) y z r) past_is step,
    ended,
  ))

-- three facts of a result are one
pub all_three : {X E : Type 0} {P Q R S : X → Type 0} (r : Result X E) → ((x : X) → P x → Q x → R x → S x) → IfOk r P → IfOk r Q → IfOk r R → IfOk r S
all_three (Ok x) f p q s = f x p q s
all_three (Err e) f p q s = tt

-- faults of a judge are those of a log
pub log_fault : {X : Type 0} (P : Fault → Type 0) (r : Result X Fault) → IfErr r P → IfErr r (IsLogFault (λ refusal. P (faults.Refused refusal)))
log_fault P (Ok x) is = tt
log_fault P (Err (faults.Refused refusal)) is = is
log_fault P (Err faults.OutOfMemory) is = tt

pub log_fault_as : {X Y : Type 0} (P : Fault → Type 0) (r : Result X Fault) (s : Result Y Fault) (fault : Fault) → r ≡ Err fault → IsErrAnd s (λ e. e ≡ fault) → IfErr r P →
    IfErr s (IsLogFault (λ refusal. P (faults.Refused refusal)))
log_fault_as P r (Ok y) fault is same so = absurd same
log_fault_as {X = X} P r (Err e) fault is same so =
    let made : Result X Fault = Err e in
    log_fault P made (subst (λ (f : Result X Fault). IfErr f P) (is ∙ ap (λ (g : Fault). Err g) (sym same)) so)

-- a verdict on silent sections ends a run as it may
pub silent_may : (verdict : SilentVerdict) → MayEndJudging (silent_verdict_status verdict)
silent_may (silent_verdicts.Accepted sections) = tt
silent_may (silent_verdicts.Refused line reason) = tt

module _ {Subject Verdict : Type 0} (judging : Judging Subject Verdict) (Refuses : Files → Refusal → Text → Type 0) (Names : Files → Subject → Type 0) (Opens : Files → List Text → Type 0) (log : Text)
    (may_end : (verdict : Verdict) → MayEndJudging (judging.status verdict)) (subject : Subject) where
  abbrev promised : Promise
  promised = judging_promise judging Refuses Names Opens log

  -- ---- a verdict

  abbrev verdict_whole : Verdict → Whole
  verdict_whole verdict = record { given = only_out (judging.line verdict); begun = false; ends = Some (judging.status verdict) }

  judges : (files : Files) (bytes : List ℕ) (verdict : Verdict) → NamesLog Names log files subject bytes → length bytes ≤ limit_number limits.LogBytes → judging.Is subject bytes verdict →
      Judges judging Names log files (verdict_whole verdict)
  judges files bytes verdict named few judged = record {
    subject = subject;
    bytes = bytes;
    named = named;
    few = few;
    verdict = verdict;
    judged = judged;
    given = refl;
    begun = refl;
    ends = refl;
  }

  ended : (verdict : Verdict) (r : Result Status Stop) → IfOk r (λ status. status ≡ judging.status verdict) → IfOk r (λ status. Some (judging.status verdict) ≡ Some status)
  ended verdict (Ok status) is = ap Some (sym is)
  ended verdict (Err stop) is = tt

  may : (verdict : Verdict) (r : Result Status Stop) → IfOk r (λ status. status ≡ judging.status verdict) → IfOk r MayEndJudging
  may verdict (Ok status) is = subst (λ (s : Status). MayEndJudging s) (sym is) (may_end verdict)
  may verdict (Err stop) is = tt

  prints_told : (bytes : List ℕ) (x z : Moment) (r : Result Status Stop) → IfSome x.told (λ c. NamesLog Names log c.files subject bytes) → length bytes ≤ limit_number limits.LogBytes →
      TellsJudged (judging.Is subject bytes) (judging.Passes subject bytes) judging.line judging.status x z r → Prints promised false [] x z r
  prints_told bytes x z r named few (inl (verdict, judged, step, status)) =
      prints_whole promised false [] (verdict_whole verdict) x z r
      (known x.told (λ c. NamesLog Names log c.files subject bytes) (λ c. Keeps promised c.files (verdict_whole verdict))
      (λ c is. inr (judges c.files bytes verdict is few judged)) named)
      refl step (ended verdict r status) (may verdict r status) (asks_no_more promised x z r (λ _. refl) step.moves.called)
  prints_told bytes x z r named few (inr (inl (refusal, passes, step, status))) =
      prints_refusal promised false [] refusal [] x z r tt
      (known x.told (λ c. NamesLog Names log c.files subject bytes) (λ c. promised.Refuses c.files refusal [])
      (λ c is. inr (record { subject = subject; bytes = bytes; named = is; refused = inr (few, passes); name = refl })) named)
      step status
  prints_told bytes x z r named few (inr (inr (same, lacks))) =
      subst (λ (m : Moment). Prints promised false [] x m r) (sym same)
      (prints_lacking promised false [] x r (subst (λ (s : Result Status Stop). IsErrAnd s (λ e. e ≡ stops.OutOfMemory)) (sym lacks) refl))

  -- ---- a log that is read

  log_named : (o : Option Contents) (bytes : List ℕ) → IfSome o (λ c. Names c.files subject) → IfSome o (λ c. c.files log ≡ Some bytes) →
      IfSome o (λ c. NamesLog Names log c.files subject bytes)
  log_named None bytes is there = tt
  log_named (Some c) bytes is there = record { is = is; there = there }

  long_refused : (o : Option Contents) → IfSome o (λ c. Names c.files subject) →
      IfSome o (λ c. (bytes : List ℕ) × (c.files log ≡ Some bytes) × (limit_number limits.LogBytes < length bytes)) →
      IfSome o (λ c. promised.Refuses c.files (past limits.LogBytes) [])
  long_refused None is long = tt
  long_refused (Some c) is long =
      inr (record { subject = subject; bytes = long.0; named = record { is = is; there = long.1 }; refused = inl (long.2, refl); name = refl })

  abbrev Tells : (x z : Moment) → Result Status Stop → Type 0
  Tells x z r = TellsVerdict (judging.Is subject) (judging.Passes subject) judging.line judging.status log x z r

  stopped : (stop : Stop) (x z : Moment) (r : Result Status Stop) → (tells : Tells x z r) → z ≡ tells.read → r ≡ Err stop → (stop ≡ stops.ReadFault → Rose x.reads tells.read.reads) →
      (stop ≡ stops.WriteFault → ⊥) → Prints promised false (log ∷ []) x z r
  stopped stop x z r tells same is rose write =
      subst (λ (m : Moment). Prints promised false (log ∷ []) x m r) (sym same)
      (subst (λ (s : Result Status Stop). Prints promised false (log ∷ []) x tells.read s) (sym is)
      (prints_stopped promised false (log ∷ []) (log ∷ []) tells.rest stop x tells.read tells.told tells.begun tells.reads tells.writes tells.called (first_all (log ∷ [])) rose write))

  by_how : (x z : Moment) (r : Result Status Stop) → IfSome x.told (λ c. Names c.files subject) → (tells : Tells x z r) →
      EndsReading (judging.Is subject) (judging.Passes subject) judging.line judging.status log x tells.read z r → Prints promised false (log ∷ []) x z r
  by_how x z r named tells (inl (bytes, there, few, calm, judged)) =
      prints_after_read promised false (log ∷ []) [] tells.rest x tells.read z r tells.told tells.begun tells.reads tells.writes tells.called calm
      (prints_told bytes tells.read z r
      (files_stay tells.rest (λ files. NamesLog Names log files subject bytes) x.told tells.read.told tells.told (log_named x.told bytes named there)) few judged)
  by_how x z r named tells (inr (inl (long, calm, step, status))) =
      prints_after_read promised false (log ∷ []) [] tells.rest x tells.read z r tells.told tells.begun tells.reads tells.writes tells.called calm
      (prints_refusal promised false [] (past limits.LogBytes) [] tells.read z r tt
      (files_stay tells.rest (λ files. promised.Refuses files (past limits.LogBytes) []) x.told tells.read.told tells.told (long_refused x.told named long)) step status)
  by_how x z r named tells (inr (inr (inl (same, failed, rose)))) = stopped stops.ReadFault x z r tells same failed (λ _. rose) read_not_write
  by_how x z r named tells (inr (inr (inr (same, lacks)))) = stopped stops.OutOfMemory x z r tells same lacks (λ is. absurd (memory_not_read is)) memory_not_write

  pub prints_judged : (x z : Moment) (r : Result Status Stop) → IfSome x.told (λ c. Names c.files subject) → Tells x z r → Prints promised false (log ∷ []) x z r
  prints_judged x z r named tells = by_how x z r named tells tells.how
