-- List mode: the first histories of a query.
use Rattle.std.specs.Prelude.{◌≡◌, is_some}
use Rattle.cc_defs.specs.LogVersions.{counts_in}
use Rattle.cc_defs.specs.Runs.{Run}
use Rattle.cc_describe.specs.declared.heads.Heads.TheVariants as heads
use Rattle.cc_describe.specs.Describing.{AreToOpen}
use Rattle.cc_describe.specs.Places.{Files}
use Rattle.cc_lists.specs.Subjects.{subject_of}
use Rattle.cc_list.specs.Promises.{Promise, IsEndStatus}
use Rattle.cc_list.specs.Searching.{IsTold}
use Rattle.cc_list.specs.Tasks.{IsTask, RefusesNamed, Task, named_by}
use Rattle.cc_list.specs.Wholes.{Whole}
use Rattle.cc_tell.specs.Manners.{Manner, OneByOne}
use Rattle.cc_words.specs.Requests.{Listing}

-- how a listing is told: event by event, with a log in the version that is asked for
abbrev pub listed_as : Listing → Task → Manner
listed_as listing task = OneByOne listing.form (counts_in (subject_of task.description task.query task.ask.after))

-- The first so many histories of a query, within a budget, after a key; a log is begun where one is named.
pub record Lists (listing : Listing) (files : Files) (whole : Whole) : Type 0 where
  pub task : Task
  pub is : IsTask files (named_by listing) task
  pub count : task.ask.count ≡ listing.count
  pub budget : task.ask.budget ≡ listing.budget
  pub begun : whole.begun ≡ is_some listing.log
  pub run : Run
  pub told : IsTold (listed_as listing task) task run whole

abbrev pub listing_promise : Listing → Promise
listing_promise listing = record {
  Refuses = λ files. RefusesNamed files (named_by listing);
  Gives = Lists listing;
  Opens = λ files. AreToOpen heads.Definite files listing.file;
  begins = λ _. listing.log;
  MayEnd = IsEndStatus;
}
