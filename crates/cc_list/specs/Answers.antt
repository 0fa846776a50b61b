-- What a run that keeps a promise may leave behind.
use Rattle.std.specs.Prelude.{◌≡◌, ℕ, ◌+◌, ◌≤◌, ◌⊎◌, Bool, false, List, [], ◌++◌, Some}
use Rattle.cc_describe.specs.Places.{Files}
use Rattle.cc_ports.specs.Contents.{Contents, IsPrefix, Rose, keeping, kept_behind}
use Rattle.cc_ports.specs.Moments.{Moment}
use Rattle.cc_list.specs.Promises.{Keeps, Promise}
use Rattle.cc_list.specs.Wholes.{IsFrontOf, Left, Whole, left_by}
use Rattle.cc_tell.specs.declared.status.Status.{Status}
use Rattle.cc_tell.specs.declared.status.Status.TheVariants as statuses
use Rattle.cc_tell.specs.ErrLines.{memory_line, read_fault_line, write_fault_line}
use Rattle.cc_tell.specs.Givens.{nothing}

-- The run came to its end: it gave what it was to give.
pub record Ended (files : Files) (promise : Promise) (status : Status) (left : Left) : Type 0 where
  pub whole : Whole
  pub gives : Keeps promise files whole
  pub ends : whole.ends ≡ Some status
  pub left_is : left ≡ left_by whole

-- a front of it was given
pub record GaveFront (files : Files) (promise : Promise) (left : Left) : Type 0 where
  pub whole : Whole
  pub gives : Keeps promise files whole
  pub front : IsFrontOf whole left

-- what was given before a run stopped: nothing, where it stopped before it had anything to give
abbrev pub GaveSoFar : Files → Promise → Left → Type 0
GaveSoFar files promise left = ((left.given ≡ nothing) × (left.begun ≡ false)) ⊎ GaveFront files promise left

-- The run was cut short: behind what was given to Err stands this much of a fault's line.
pub record CutShort (files : Files) (promise : Promise) (left : Left) (line : List ℕ) : Type 0 where
  pub before : Left
  pub gave : GaveSoFar files promise before
  pub given : left.given ≡ record before.given { err = before.given.err ++ line }
  pub begun : left.begun ≡ before.begun

-- a count rose by two or more, or stands at the greatest u64
abbrev pub RoseTwice : ℕ → ℕ → Type 0
RoseTwice before after = (before + 2 ≤ after) ⊎ (18446744073709551615 ≤ after)

-- the counts of faults before a run and after it
pub record Counts : Type 0 where
  pub reads_before : ℕ
  pub reads_after : ℕ
  pub writes_before : ℕ
  pub writes_after : ℕ

abbrev pub counts : (before after : Moment) → Counts
counts before after =
    record { reads_before = before.reads; reads_after = after.reads; writes_before = before.writes; writes_after = after.writes }

-- how much of a fault's line was given, by the status
abbrev pub IsFaultLine : Status → Counts → List ℕ → Type 0
-- after a fault of reading it is whole
IsFaultLine statuses.ReadFault counts line = line ≡ read_fault_line
-- after a fault of writing it may be cut where giving it failed too, and it is the other line where that followed a fault of reading
IsFaultLine statuses.WriteFault counts line =
    (line ≡ write_fault_line)
    ⊎ ((IsPrefix line write_fault_line × RoseTwice counts.writes_before counts.writes_after)
    ⊎ (IsPrefix line read_fault_line × Rose counts.reads_before counts.reads_after × Rose counts.writes_before counts.writes_after))
-- after want of memory it may be cut only where giving it failed
IsFaultLine statuses.OutOfMemory counts line = (line ≡ memory_line) ⊎ (IsPrefix line memory_line × Rose counts.writes_before counts.writes_after)
IsFaultLine statuses.Right counts line = ⊥
IsFaultLine statuses.Not counts line = ⊥
IsFaultLine statuses.Refused counts line = ⊥
IsFaultLine statuses.Spent counts line = ⊥
IsFaultLine statuses.Asked counts line = ⊥

abbrev pub CutShortBy : Files → Promise → Status → Counts → Left → Type 0
CutShortBy files promise status counts left = (line : List ℕ) × IsFaultLine status counts line × CutShort files promise left line

-- the answer of a run, by its status
abbrev pub Answers : Files → Promise → Status → Counts → Left → Type 0
Answers files promise statuses.Right counts left = Ended files promise statuses.Right left
Answers files promise statuses.Not counts left = Ended files promise statuses.Not left
Answers files promise statuses.Refused counts left = Ended files promise statuses.Refused left
Answers files promise statuses.Spent counts left = Ended files promise statuses.Spent left
Answers files promise statuses.Asked counts left = Ended files promise statuses.Asked left
Answers files promise statuses.ReadFault counts left = CutShortBy files promise statuses.ReadFault counts left
Answers files promise statuses.WriteFault counts left = CutShortBy files promise statuses.WriteFault counts left
Answers files promise statuses.OutOfMemory counts left = CutShortBy files promise statuses.OutOfMemory counts left

-- what is in the outputs, with this for the log
abbrev pub left_in : Contents → List ℕ → Bool → Left
left_in contents log begun = record { given = record { out = contents.out; err = contents.err; log = log }; begun = begun }

-- What this leaves in Log, where it was empty before: the same where a log was begun or Log keeps what is given to it, and nothing
-- where it drops that.
abbrev pub LeavesLog : (before after : Contents) (begun : Bool) → List ℕ → Type 0
LeavesLog before after begun log = after.log ≡ kept_behind (keeping begun before).keeps [] log

-- What a run leaves on a desk that tells its contents: the files are as before, and the three outputs, whether a log was begun,
-- and the status are the answer to the promise.
pub record Answered (before after : Contents) (begun : Bool) (promise : Promise) (status : Status) (counts : Counts) : Type 0 where
  pub files : after.files ≡ before.files
  pub log : List ℕ
  pub logged : LeavesLog before after begun log
  pub answer : Answers before.files promise status counts (left_in after log begun)
