-- What a run is to give, and fronts of it.
use Rattle.std.specs.Prelude.{◌≡◌, Bool, Option}
use Rattle.cc_tell.specs.declared.status.Status.{Status}
use Rattle.cc_tell.specs.Givens.{Given, AreFronts}

-- ---- what is given

-- What a run gives to its outputs, whether it begins a log, and the status with which it ends; none where it is not at its end yet.
pub record Whole : Type 0 where
  pub given : Given
  pub begun : Bool
  pub ends : Option Status

-- ---- what is left

-- what was given to the outputs of a run, and whether it began a log
pub record Left : Type 0 where
  pub given : Given
  pub begun : Bool

abbrev pub left_by : Whole → Left
left_by whole = record { given = whole.given; begun = whole.begun }

-- a front of what is given was given
pub record IsFrontOf (whole : Whole) (left : Left) : Type 0 where
  pub fronts : AreFronts left.given whole.given
  pub begun : left.begun ≡ whole.begun
