-- Signatures: the ground constants of a description, and where they stand at a horizon.
use Rattle.std.specs.Prelude.{ℕ, ◌+◌, ◌*◌, ◌^◌, ◌<◌, ◌==◌, ◌&&◌, nat_eq, List, ◌∷◌, ◌++◌, length, map, position, slice_get, Option, option_and_then}
use Rattle.std.specs.Ordering.{nat_cmp}
use Rattle.std.specs.Cmp.Lexicographic.{pointwise, slice_cmp}
use Rattle.std.specs.List.{AllByRecursion}
use Rattle.std.specs.List.Sorted.{IsStrictlySortedBy}
use Rattle.cc_defs.specs.declared.signature.Const.{Const}

-- the number that stands for the value `none` among those of a constant
abbrev pub none_value : ℕ
none_value = 4294967295

pub record Signature : Type 0 where
  pub fluents : List Const
  pub actions : List Const
  -- the number that each object is, where it is one
  pub numbers : List (Option ℕ)

-- the number that an object is
abbrev pub number_at : List (Option ℕ) → ℕ → Option ℕ
number_at numbers object = option_and_then (λ number. number) (slice_get numbers object)

-- by number: the fluents, then the actions
abbrev pub ground_constants : Signature → List Const
ground_constants signature = signature.fluents ++ signature.actions

-- the number of the ground constant of this symbol with these arguments
abbrev pub ground_number : List Const → ℕ → List ℕ → Option ℕ
ground_number constants symbol args = position (λ constant. (constant.symbol == symbol) && pointwise nat_eq constant.args args) constants

-- how many positions a horizon has
abbrev pub position_count : Signature → ℕ → ℕ
position_count signature horizon = length signature.fluents * (horizon + 1) + length signature.actions * horizon

-- where a constant stands in the order of its kind: by its symbol, then by its arguments
abbrev pub place : Const → List ℕ
place constant = constant.symbol ∷ constant.args

abbrev pub AreOrdered : List Const → Type 0
AreOrdered constants = IsStrictlySortedBy (slice_cmp nat_cmp) (map place constants)

abbrev pub AreShort : List Const → Type 0
AreShort constants = AllByRecursion (λ constant. length constant.domain < 2 ^ 32) constants

-- the numbers of constants and their value indexes fit in 32 bits
pub record IsSignature (signature : Signature) : Type 0 where
  pub few : length signature.fluents + length signature.actions < 2 ^ 32
  pub fluents_short : AreShort signature.fluents
  pub actions_short : AreShort signature.actions
