-- The names of the files that a run opens, and of the log that it begins.
use Rattle.std.specs.Prelude.{◌≡◌, List}
use Rattle.cc_describe.specs.Describing.{AreFirstNames}
use Rattle.cc_describe.specs.Places.{Files}
use Rattle.cc_list.specs.Promises.{IsEndStatus, Promise, log_asked}
use Rattle.cc_tell.specs.declared.status.Status.{Status}
use Rattle.cc_tell.specs.declared.status.Status.TheVariants as statuses
use Rattle.cc_words.specs.Words.{Text}

-- ---- statuses

-- one of a run that is not refused either
abbrev pub IsAnswer : Status → Type 0
IsAnswer statuses.Refused = ⊥
IsAnswer status = IsEndStatus status

-- ---- names

-- A run opens the names that it promises, in their order, and no others; and where it has an answer, all of them.
pub record OpensAsked (files : Files) (promise : Promise) (status : Status) (names : List Text) : Type 0 where
  pub all : List Text
  pub asked : promise.Opens files all
  pub first : AreFirstNames names all
  pub whole : IsAnswer status → names ≡ all

-- A run begins no other log than that, once; and where it has an answer, the one that this answer has.
pub record BeginsAsked (promise : Promise) (status : Status) (names : List Text) : Type 0 where
  pub first : AreFirstNames names (log_asked promise statuses.Right)
  pub whole : IsAnswer status → names ≡ log_asked promise status
