-- What a mode promises: what each further mode has to hand in.
use Rattle.std.specs.Prelude.{◌≡◌, ◌⊎◌, Bool, List, [], Option, None, is_some}
use Rattle.cc_defs.specs.declared.refusal.Refusal.{Refusal}
use Rattle.cc_defs.specs.Runs.{optional}
use Rattle.cc_describe.specs.Places.{Files}
use Rattle.cc_list.specs.Refusing.{IsRefusedWith}
use Rattle.cc_list.specs.Tasks.{refusal_without_place}
use Rattle.cc_list.specs.Wholes.{Whole}
use Rattle.cc_tell.specs.declared.status.Status.{Status}
use Rattle.cc_tell.specs.declared.status.Status.TheVariants as statuses
use Rattle.cc_words.specs.Words.{Text}

-- a status with which a run comes to its end
abbrev pub IsEndStatus : Status → Type 0
IsEndStatus statuses.Right = Unit {0}
IsEndStatus statuses.Not = Unit {0}
IsEndStatus statuses.Refused = Unit {0}
IsEndStatus statuses.Spent = Unit {0}
IsEndStatus statuses.Asked = Unit {0}
IsEndStatus statuses.ReadFault = ⊥
IsEndStatus statuses.WriteFault = ⊥
IsEndStatus statuses.OutOfMemory = ⊥

pub record Promise : Type 1 where
  -- what is refused of what its words name, with the name of the file that the refusal speaks of
  pub Refuses : Files → Refusal → Text → Type 0
  -- what it gives where nothing of that is refused
  pub Gives : Files → Whole → Type 0
  -- the files that it opens, in their order
  pub Opens : Files → List Text → Type 0
  -- the name of the log that it begins where it ends so
  pub begins : Status → Option Text
  -- the statuses with which it may end
  pub MayEnd : Status → Type 0

-- A run that keeps a promise gives this: what is asked for is refused, or it is given.
abbrev pub Keeps : Promise → Files → Whole → Type 0
Keeps promise files whole = IsRefusedWith (promise.Refuses files) whole ⊎ promise.Gives files whole

-- whether it may begin a log: where what is asked for is done
abbrev pub names_log : Promise → Bool
names_log promise = is_some (promise.begins statuses.Right)

-- the name of the log that it begins where it ends so, and no other
abbrev pub log_asked : Promise → Status → List Text
log_asked promise status = optional (promise.begins status)

-- words that ask for nothing are refused
abbrev pub RefusesWords : Refusal → Text → Type 0
RefusesWords refusal file = (refusal ≡ refusal_without_place 1) × (file ≡ [])

abbrev pub refused_words : Promise
refused_words = record {
  Refuses = λ _. RefusesWords;
  Gives = λ _ _. ⊥;
  Opens = λ _ opened. opened ≡ [];
  begins = λ _. None;
  MayEnd = λ status. status ≡ statuses.Refused;
}
