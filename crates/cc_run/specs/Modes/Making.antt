-- Make mode: a made description of a size is searched, and the search summed up.
use Rattle.std.specs.Prelude.{◌≡◌, ℕ, false, [], None, IsNone}
use Rattle.cc_defs.specs.Runs.{Run}
use Rattle.cc_describe.specs.Places.{Files}
use Rattle.cc_list.specs.Promises.{Promise, IsEndStatus}
use Rattle.cc_list.specs.Searching.{IsTold}
use Rattle.cc_list.specs.Tasks.{IsTask, RefusesNamed, Task}
use Rattle.cc_run.specs.Naming.{made_files, made_named}
use Rattle.cc_list.specs.Wholes.{Whole}
use Rattle.cc_tell.specs.declared.status.Status.{Status}
use Rattle.cc_tell.specs.declared.status.Status.TheVariants as statuses
use Rattle.cc_tell.specs.Manners.{Summed}

-- All histories of the query of a made description, within a budget: they are summed up, and no log is begun.
pub record Makes (size budget : ℕ) (files : Files) (whole : Whole) : Type 0 where
  pub task : Task
  pub is : IsTask (made_files size) made_named task
  pub count : IsNone task.ask.count
  pub budget_is : task.ask.budget ≡ budget
  pub begun : whole.begun ≡ false
  pub run : Run
  pub told : IsTold (Summed size) task run whole

-- no number of histories is asked for
abbrev pub MayEndMaking : Status → Type 0
MayEndMaking statuses.Asked = ⊥
MayEndMaking status = IsEndStatus status

abbrev pub making_promise : (size budget : ℕ) → Promise
making_promise size budget = record {
  Refuses = λ files. RefusesNamed (made_files size) made_named;
  Gives = Makes size budget;
  Opens = λ files opened. opened ≡ [];
  begins = λ _. None;
  MayEnd = MayEndMaking;
}
