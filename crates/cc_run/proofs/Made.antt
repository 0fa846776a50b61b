-- A made description is searched, and the search summed up.
use Rattle.std.proofs.Common.{Some, None, Option, ◌≡◌, refl, subst, ℕ, false, [], inl, inr, arith, IfOk, IfSome, Ok, Err, Result}
use Rattle.std.specs.Prelude.{IfErr, IsNone}
use Rattle.cc_defs.specs.Runs.{Run}
use Rattle.cc_describe.specs.declared.description.DescribedWide.{DescribedWide}
use Rattle.cc_describe.specs.declared.description.DescribeStop.{DescribeStop}
use Rattle.cc_describe.specs.declared.description.DescribeStop.TheVariants as describe_stops
use Rattle.cc_describe.specs.declared.heads.Heads.TheVariants as heads
use Rattle.cc_describe.specs.Describing.{Describes, DescribesWide, HasStopped}
use Rattle.cc_describe.specs.Places.{Files}
use Rattle.cc_defs.specs.declared.refusal.Refusal.{Refusal}
use Rattle.cc_list.proofs.Described.{stopped_refuses}
use Rattle.cc_list.specs.Promises.{Keeps}
use Rattle.cc_list.specs.Searching.{IsTold}
use Rattle.cc_list.specs.Tasks.{IsTask, RefusesNamed, Task}
use Rattle.cc_words.specs.Words.{Text}
use Rattle.cc_list.specs.Wholes.{Whole}
use Rattle.cc_ports.specs.Contents.{Contents, Rose}
use Rattle.cc_ports.specs.Moments.{Moment}
use Rattle.cc_run.specs.Modes.Making.{Makes, MayEndMaking, making_promise}
use Rattle.cc_run.specs.Naming.{made_files, made_named}
use Rattle.cc_tell.specs.declared.status.Status.{Status}
use Rattle.cc_tell.specs.declared.status.Status.TheVariants as statuses
use Rattle.cc_tell.specs.Manners.{Summed}
use Rattle.cc_list.proofs.Outcomes.{IsForSearch, known, told_ends, told_none}

pub makes_for : (size budget : ℕ) (task : Task) (x : Moment) → IsNone task.ask.count → task.ask.budget ≡ budget →
    IfSome x.told (λ _. IsTask (made_files size) made_named task) → IsForSearch (making_promise size budget) false [] (Summed size) task x
makes_for size budget task x all same is = record {
  names_are = λ _. refl;
  gives = λ run whole begun told. known x.told (λ _. IsTask (made_files size) made_named task) (λ before. Keeps (making_promise size budget) before.files whole)
      (λ before is. inr (makes before.files is run whole begun told)) is;
  may = λ run whole status told ends. may_make task run whole status told ends all;
}
  where
    makes : (files : Files) → IsTask (made_files size) made_named task → (run : Run) (whole : Whole) → whole.begun ≡ false → IsTold (Summed size) task run whole → Makes size budget files whole
    makes files is run whole begun told = record { task = task; is = is; count = all; budget_is = same; begun = begun; run = run; told = told }

    may_make : (task : Task) (run : Run) (whole : Whole) (status : Status) → IsTold (Summed size) task run whole → whole.ends ≡ Some status → IsNone task.ask.count → MayEndMaking status
    may_make task run whole statuses.Asked told ends all = told_none (Summed size) task run whole told ends all
    may_make task run whole statuses.Right told ends all = tt
    may_make task run whole statuses.Not told ends all = tt
    may_make task run whole statuses.Refused told ends all = tt
    may_make task run whole statuses.Spent told ends all = tt
    may_make task run whole statuses.ReadFault told ends all = told_ends (Summed size) task run whole statuses.ReadFault told ends
    may_make task run whole statuses.WriteFault told ends all = told_ends (Summed size) task run whole statuses.WriteFault told ends
    may_make task run whole statuses.OutOfMemory told ends all = told_ends (Summed size) task run whole statuses.OutOfMemory told ends

-- ---- a made description that was read

pub whatever : {P : Type 0} (o : Option Contents) → P → IfSome o (λ _. P)
whatever None p = tt
whatever (Some c) p = p

pub no_rose : Rose 0 0 → ⊥
no_rose (inl rose) = omega arith
no_rose (inr end) = omega arith

pub made_describes : (size : ℕ) (files : Files) (r : Result DescribedWide DescribeStop) (said : DescribedWide) → files ≡ made_files size → r ≡ Ok said →
    IfOk r (DescribesWide heads.Definite files made_named.file) → Describes heads.Definite (made_files size) made_named.file said.described
made_describes size files r said made is describes =
    let all = subst (λ (f : Files). DescribesWide heads.Definite f made_named.file said) made (subst (λ (o : Result DescribedWide DescribeStop). IfOk o (DescribesWide heads.Definite files made_named.file)) is describes) in
    (all.0, all.1, all.2, all.3.described, all.4)

pub made_refused : (size : ℕ) (files : Files) (r : Result DescribedWide DescribeStop) (refusal : Refusal) (name : Text) → files ≡ made_files size → r ≡ Err (describe_stops.Refused refusal name) →
    IfErr r (HasStopped heads.Definite files made_named.file) → RefusesNamed (made_files size) made_named refusal name
made_refused size files r refusal name made is stopped =
    let all = subst (λ (f : Files). HasStopped heads.Definite f made_named.file (describe_stops.Refused refusal name)) made (subst (λ (o : Result DescribedWide DescribeStop). IfErr o (HasStopped heads.Definite files made_named.file)) is stopped) in
    inl (stopped_refuses heads.Definite (made_files size) made_named.file refusal name all)
