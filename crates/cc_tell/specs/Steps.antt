-- Steps of a run: what each gives to the desk, and the log that it begins.
use Rattle.std.specs.Prelude.{◌≡◌, ℕ, ◌≤◌, Bool, true, List, [], Some, option_map, Result, MatchResult, IfSome, IfErr, IsErrOf, is_ok, ◌||◌, ◌&&◌}
use Rattle.cc_ports.specs.Calls.{AreActs, Call, names_begun, names_opened, with_calls}
use Rattle.cc_ports.specs.Contents.{Contents, Rose, keeping}
use Rattle.cc_ports.specs.Moments.{Moment}
use Rattle.cc_tell.specs.declared.status.Stop.{Stop}
use Rattle.cc_tell.specs.declared.status.Stop.TheVariants as stops
use Rattle.cc_tell.specs.Givens.{AreFronts, Given, adding}

-- Between two moments these files were to be opened and these logs to be begun, in their order, and no others; a file is read just
-- when it was opened, and else bytes are given.
pub record Called (opened begun : List (List ℕ)) (old new : Moment) : Type 0 where
  pub more : List Call
  pub calls : new.calls ≡ with_calls more old.calls
  pub opened_are : names_opened more ≡ opened
  pub begun_are : names_begun more ≡ begun
  pub acts : AreActs more

-- neither count rose
abbrev pub IsCalm : Moment → Moment → Type 0
IsCalm old new = (new.reads ≡ old.reads) × (new.writes ≡ old.writes)

-- what moves on: nothing but outputs changes, no file is opened and no log begun, the counts do not fall, nor rise where nothing
-- stops, and a stop has its cause
pub record Moves {X : Type 0} (given : Given) (old new : Moment) (result : Result X Stop) : Type 0 where
  pub told : new.told ≡ option_map (adding given) old.told
  pub begun : new.begun ≡ old.begun
  pub reads : old.reads ≤ new.reads
  pub writes : old.writes ≤ new.writes
  pub called : Called [] [] old new
  pub calm : is_ok result ≡ true → IsCalm old new
  pub no_read_fault : IsErrOf result stops.ReadFault → ⊥
  pub write_fault : IsErrOf result stops.WriteFault → Rose old.writes new.writes

-- A step that gives texts: all of them, or fronts of them where it stops.
pub record Step {X : Type 0} (whole : Given) (old new : Moment) (result : Result X Stop) : Type 0 where
  pub given : Given
  pub moves : Moves given old new result
  pub how : MatchResult result (λ _. given ≡ whole) (λ _. AreFronts given whole)

-- nothing was written yet
pub record IsFresh (contents : Contents) : Type 0 where
  pub out : contents.out ≡ []
  pub err : contents.err ≡ []
  pub log : contents.log ≡ []

-- A log is begun, where one is named; on a desk on which nothing was written nothing is there afterwards, and a log that was begun
-- keeps what is given to it.
pub record Begins {X : Type 0} (named : Bool) (names : List (List ℕ)) (old new : Moment) (result : Result X Stop) : Type 0 where
  pub told : IfSome old.told (λ before. IsFresh before → new.told ≡ Some (keeping (is_ok result && named) before))
  pub begun : MatchResult result (λ _. new.begun ≡ (named || old.begun)) (λ _. new.begun ≡ old.begun)
  pub failed : IfErr result (λ stop. (stop ≡ stops.WriteFault) × Rose old.writes new.writes × (named ≡ true))
  pub called : Called [] names old new
  pub calm : is_ok result ≡ true → IsCalm old new
  pub reads : old.reads ≤ new.reads
  pub writes : old.writes ≤ new.writes
