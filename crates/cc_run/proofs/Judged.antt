-- A log of a query that is judged before it is converted: that it is the one that words name, and what is refused of it.
use Rattle.std.proofs.Common.{[], ◌≡◌, refl, sym, subst, ◌<◌, ◌≤◌, List, ℕ, Option, Some, None, IfSome, length, inl, inr}
use Rattle.cc_defs.specs.declared.lists.Key.{Key}
use Rattle.cc_defs.specs.declared.log.LogVerdict.{LogVerdict}
use Rattle.cc_defs.specs.declared.refusal.Fault.{Fault}
use Rattle.cc_defs.specs.declared.refusal.Fault.TheVariants as faults
use Rattle.cc_defs.specs.declared.refusal.LimitAt.TheVariants as limits
use Rattle.cc_defs.specs.declared.refusal.Refusal.{Refusal}
use Rattle.cc_defs.specs.Description.{Description}
use Rattle.cc_defs.specs.Limits.{limit_number}
use Rattle.cc_defs.specs.Logs.{IsVerdict}
use Rattle.cc_defs.specs.Refusals.{past}
use Rattle.cc_defs.specs.Resolved.{Query}
use Rattle.cc_judge.specs.Judging.{BlocksHistories, IsJudgeFault, IsVerdictWithin}
use Rattle.cc_list.specs.Tasks.{IsTask, Task}
use Rattle.cc_ports.specs.Contents.{Contents}
use Rattle.cc_lists.specs.Subjects.{subject_of}
use Rattle.cc_run.specs.Modes.Checking.{IsVerdictOn, NamesLogOf}
use Rattle.cc_run.specs.Modes.Converting.{converting_promise}
use Rattle.cc_run.specs.Naming.{checked_by, named_in}
use Rattle.cc_words.specs.declared.asked.ConvertAsked.{ConvertAsked}
use Rattle.cc_words.specs.Requests.{Checking, Converting, ToConvert}
use Rattle.cc_words.specs.Views.{converting_by}
use Rattle.cc_words.specs.Words.{Text}

same_converting : (a b : Converting) → ToConvert a ≡ ToConvert b → a ≡ b
same_converting a b e = cc

pub converting_is : (asked : ConvertAsked) (converting : Converting) → ToConvert (converting_by asked) ≡ ToConvert converting → converting_by asked ≡ converting
converting_is asked converting e = same_converting (converting_by asked) converting e

-- what was read is the log
pub is_log_of : (o : Option Contents) (checking : Checking) (task : Task) (name read bytes : List ℕ) → name ≡ checking.log → bytes ≡ read →
    IfSome o (λ before. IsTask before.files (named_in checking) task) → IfSome o (λ c. c.files name ≡ Some read) →
    IfSome o (λ before. NamesLogOf before.files checking task bytes)
is_log_of None checking task name read bytes same same_bytes is there = tt
is_log_of (Some c) checking task name read bytes same same_bytes is there = record {
  is = is;
  there = subst (λ (b : List ℕ). c.files checking.log ≡ Some b) (sym same_bytes) (subst (λ (n : Text). c.files n ≡ Some read) same there);
}

-- ---- what is said

-- the verdict and the fault of the key that was found are those of the key that is named
pub verdict_as : (task : Task) (key : Option Key) (bytes : List ℕ) (verdict : LogVerdict) → key ≡ task.ask.after →
    IsVerdict (subject_of task.description task.query key) bytes verdict → IsVerdictWithin task.description task.query key bytes verdict →
    BlocksHistories task.description task.query key bytes verdict → IsVerdictOn task bytes verdict
verdict_as task key bytes verdict same judged within blocks = record {
  judged = subst (λ (k : Option Key). IsVerdict (subject_of task.description task.query k) bytes verdict) same judged;
  within = subst (λ (k : Option Key). IsVerdictWithin task.description task.query k bytes verdict) same within;
  blocks = subst (λ (k : Option Key). BlocksHistories task.description task.query k bytes verdict) same blocks;
}

pub fault_as : (d : Description) (q : Query) (key found : Option Key) (bytes : List ℕ) (fault : Fault) → found ≡ key → IsJudgeFault d q found bytes fault → IsJudgeFault d q key bytes fault
fault_as d q key found bytes fault same is = subst (λ (k : Option Key). IsJudgeFault d q k bytes fault) same is

-- ---- what is refused

module _ (o : Option Contents) (converting : Converting) (task : Task) (refusal : Refusal) where
  -- it reaches a section that passes a limit
  pub refuses_section : (bytes : List ℕ) → IfSome o (λ before. NamesLogOf before.files (checked_by converting) task bytes) → length bytes ≤ limit_number limits.LogBytes →
      IsJudgeFault task.description task.query task.ask.after bytes (faults.Refused refusal) → IfSome o (λ before. (converting_promise converting).Refuses before.files refusal [])
  refuses_section bytes named few fault = by o named
    where
      by : (o : Option Contents) → IfSome o (λ before. NamesLogOf before.files (checked_by converting) task bytes) → IfSome o (λ before. (converting_promise converting).Refuses before.files refusal [])
      by None named = tt
      by (Some c) named = inr (record { subject = task; bytes = bytes; named = named; refused = inr (few, fault); name = refl })

  -- it is too long
  pub refuses_long : (name : List ℕ) (most : ℕ) → name ≡ converting.log → IfSome o (λ before. IsTask before.files (named_in (checked_by converting)) task) →
      IfSome o (λ c. (bytes : List ℕ) × (c.files name ≡ Some bytes) × (most < length bytes)) → most ≡ limit_number limits.LogBytes → refusal ≡ past limits.LogBytes →
      IfSome o (λ before. (converting_promise converting).Refuses before.files refusal [])
  refuses_long name most same is long most_is past_is = by o is long
    where
      by : (o : Option Contents) → IfSome o (λ before. IsTask before.files (named_in (checked_by converting)) task) → IfSome o (λ c. (bytes : List ℕ) × (c.files name ≡ Some bytes) × (most < length bytes)) →
          IfSome o (λ before. (converting_promise converting).Refuses before.files refusal [])
      by None is long = tt
      by (Some c) is long = inr (record {
        subject = task;
        bytes = long.0;
        named = record { is = is; there = subst (λ (n : Text). c.files n ≡ Some long.0) same long.1 };
        refused = inl (subst (λ (n : ℕ). n < length long.0) most_is long.2, past_is);
        name = refl;
      })
