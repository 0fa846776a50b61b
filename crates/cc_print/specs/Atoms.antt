-- The text of an atom at its step.
use Rattle.std.specs.Prelude.{◌≡◌, ℕ, ◌<◌, ◌/◌, ◌%◌, List, [], ◌++◌, length, slice_get, slice_index, codes, decimal, Option, Some, None}
use Rattle.cc_defs.specs.declared.signature.Const.{Const}
use Rattle.cc_defs.specs.Description.{Description, stride}
use Rattle.cc_defs.specs.Signatures.{Signature, ground_constants}
use Rattle.cc_defs.specs.Texts.{constant_text, object_text}
use Rattle.cc_defs.specs.Universe.{constants_in}

-- a constant with the value of an index, whatever its sort
abbrev pub value_text : Description → Option Const → ℕ → List ℕ
value_text d (Some constant) value = constant_text d constant ++ codes "=" ++ object_text d (slice_index constant.domain value)
value_text d None value = []

-- the step of a position, its constant, and a value of it: `1: on(lamp)=true`
abbrev pub atom_text : Description → (position value : ℕ) → List ℕ
atom_text d position value = decimal (position / stride d) ++ codes ": " ++ value_text d (slice_get (constants_in d.universe) (position % stride d)) value

-- a position stands for a constant, which has a value of this index
pub record IsAtomOf (signature : Signature) (position value : ℕ) : Type 0 where
  pub constant : Const
  pub found : slice_get (ground_constants signature) (position % length (ground_constants signature)) ≡ Some constant
  pub within : value < length constant.domain
