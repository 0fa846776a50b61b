-- What a run tells up to its end, or up to its stop.
use Rattle.std.specs.Prelude.{◌≡◌, ℕ, ◌≤◌, Bool, true, false, List, Option, Some, Result, MatchResult, IfSome, IfOk, IsSomeAnd, IsErrOf, is_ok, Ok, Err}
use Rattle.cc_defs.specs.Runs.{Run}
use Rattle.cc_describe.specs.Describing.{AreFirstNames}
use Rattle.cc_ports.specs.Contents.{Contents, Rose}
use Rattle.cc_ports.specs.Moments.{Moment}
use Rattle.cc_list.specs.Answers.{Ended, GaveSoFar, LeavesLog, left_in}
use Rattle.cc_list.specs.Names.{IsAnswer}
use Rattle.cc_list.specs.Promises.{Promise, log_asked}
use Rattle.cc_list.specs.Searching.{IsTold}
use Rattle.cc_list.specs.Tasks.{Task}
use Rattle.cc_tell.specs.declared.status.Status.{Status}
use Rattle.cc_tell.specs.declared.status.Status.TheVariants as statuses
use Rattle.cc_tell.specs.declared.status.Stop.{Stop}
use Rattle.cc_tell.specs.declared.status.Stop.TheVariants as stops
use Rattle.cc_tell.specs.Steps.{IsFresh, Called, IsCalm, Step}
use Rattle.cc_tell.specs.Manners.{Manner}
use Rattle.cc_tell.specs.Givens.{Given, joined}
use Rattle.cc_tell.specs.StopLines.{stop_status}
use Rattle.cc_words.specs.Words.{Text}

-- ---- a search

-- A search that gave this before tells a run, up to its ending or to a limit; or it stops within.
pub record Searches (manner : Manner) (task : Task) (before : Given) (old new : Moment) (result : Result Status Stop) : Type 0 where
  pub run : Run
  pub given : Given
  pub ends : Option Status
  pub told : IsTold manner task run (record { given = joined before given; begun = false; ends = ends })
  pub step : Step given old new result
  pub ended : IfOk result (λ status. ends ≡ Some status)

-- ---- a run up to its end, or to its stop

-- what is on the desk where a run ended or stopped
pub record Leaves (promise : Promise) (before after : Contents) (begun : Bool) (result : Result Status Stop) : Type 0 where
  pub files : after.files ≡ before.files
  pub log : List ℕ
  pub logged : LeavesLog before after begun log
  pub how : MatchResult result (λ status. Ended before.files promise status (left_in after log begun)) (λ _. GaveSoFar before.files promise (left_in after log begun))

-- the status of a run that ended or stopped
abbrev pub outcome : Result Status Stop → Status
outcome (Ok status) = status
outcome (Err stop) = stop_status stop

-- Of the names that are to be opened and begun none is left out before another; and where there is an answer, none at all.
pub record Asks (opens : List Text) (begins : Status → List Text) (old new : Moment) (result : Result Status Stop) : Type 0 where
  pub opened : List Text
  pub begun : List Text
  pub called : Called opened begun old new
  pub opened_first : AreFirstNames opened opens
  pub begun_first : AreFirstNames begun (begins statuses.Right)
  pub whole : IsAnswer (outcome result) → (opened ≡ opens) × (begun ≡ begins (outcome result))

-- a run up to its end, or to its stop with its cause, which has these files to open
pub record Prints (promise : Promise) (begins : Bool) (opens : List Text) (old new : Moment) (result : Result Status Stop) : Type 0 where
  pub told : IfSome old.told (λ before. IsFresh before → old.begun ≡ false → IsSomeAnd new.told (λ after. Leaves promise before after new.begun result))
  pub ends : IfOk result promise.MayEnd
  pub asks : Asks opens (log_asked promise) old new result
  pub calm : is_ok result ≡ true → IsCalm old new
  pub begun : begins ≡ false → new.begun ≡ old.begun
  pub reads : old.reads ≤ new.reads
  pub writes : old.writes ≤ new.writes
  pub read_fault : IsErrOf result stops.ReadFault → Rose old.reads new.reads
  pub write_fault : IsErrOf result stops.WriteFault → Rose old.writes new.writes

-- a whole run: the files that it has to open are those that it promises
pub record PrintsAsked (promise : Promise) (begins : Bool) (old new : Moment) (result : Result Status Stop) : Type 0 where
  pub opens : List Text
  pub asked : IfSome old.told (λ before. promise.Opens before.files opens)
  pub prints : Prints promise begins opens old new result
