-- A step of a run on certain and possible atoms that fits can be printed.
use Rattle.std.proofs.Common.{◌≡◌, ◌∙◌, refl, sym, ap, subst, ℕ, zero, suc, ◌<◌, ◌%◌, List, [], ◌∷◌, length, Option, Some, None, slice_get, arith}
use Rattle.std.specs.Prelude.{option_map}
use Rattle.cc_defs.specs.declared.signature.Const.{Const}
use Rattle.cc_defs.specs.Conditions.{IsSignatureOfDescription}
use Rattle.cc_defs.specs.Description.{Description, sizes_at}
use Rattle.cc_defs.specs.Laws.{PositionsHaveSizes}
use Rattle.cc_defs.specs.Rows.{IsRow}
use Rattle.cc_defs.specs.Signatures.{Signature, ground_constants, position_count}
use Rattle.cc_form.specs.Places.{position_sizes}
use Rattle.cc_print.specs.Atoms.{IsAtomOf}
use Rattle.cc_lists.proofs.Positions.{sizes_are}
use Rattle.cc_sure.specs.declared.turn.SureStep.{SureStep}
use Rattle.cc_sure.specs.declared.turn.SureTurn.{SureTurn}
use Rattle.cc_sure.specs.declared.turn.SureTurn.TheVariants as turns
use Rattle.cc_sure.specs.Sures.{IsFewTurn, IsShortTurn}
use Rattle.cc_sure.specs.SureSteps.{IsFitStep, IsOfHorizon}
use Rattle.cc_tell_modes.specs.SureTexts.{IsPrintable}

some_of : {X : Type 0} (a b : X) → Some a ≡ Some b → a ≡ b
some_of a b e = cc

from_map : {X Y : Type 0} (f : X → Y) (o : Option X) (y : Y) → option_map f o ≡ Some y → (x : X) × (o ≡ Some x) × (f x ≡ y)
from_map f None y e = absurd cc
from_map f (Some x) y e = (x, refl, some_of (f x) y e)

within : (sizes : List ℕ) (position size : ℕ) → slice_get sizes position ≡ Some size → position < length sizes
within [] position size at = absurd cc
within (x ∷ sizes) zero size at = omega arith
within (x ∷ sizes) (suc position) size at = let low = within sizes position size at in omega arith

-- a description with a signature
abbrev with_signature : Signature → Description
with_signature signature = record {
  objects = [];
  universe = record { sorts = []; numbers = signature.numbers; symbols = []; fluents = signature.fluents; actions = signature.actions };
  laws = [];
}

-- a value of a position is an atom
atom_of : PositionsHaveSizes → (signature : Signature) (horizon position size : ℕ) → slice_get (position_sizes signature horizon) position ≡ Some size → (value : ℕ) → value < size →
    IsAtomOf signature position value
atom_of law signature horizon position size at value low =
    let d = with_signature signature in
    let of : IsSignatureOfDescription d signature = record { fluents = refl; actions = refl; numbers = refl } in
    let here = law d signature of horizon in
    let there_at : slice_get (sizes_at d horizon) position ≡ Some size = ap (λ (sizes : List ℕ). slice_get sizes position) (sym (sizes_are d signature of horizon)) ∙ at in
    let inside = within (sizes_at d horizon) position size there_at in
    let count : length (sizes_at d horizon) ≡ position_count signature horizon = here.0 in
    let there : position < position_count signature horizon = omega arith in
    let constant = from_map (λ (c : Const). length c.domain) (slice_get (ground_constants signature) (position % length (ground_constants signature))) size (sym (here.1 position there) ∙ there_at) in
    record { constant = constant.0; found = constant.1; within = subst (λ (n : ℕ). value < n) (sym constant.2) low }

turn_printable : PositionsHaveSizes → (signature : Signature) (horizon : ℕ) (turn : SureTurn) → IsShortTurn turn → IsFewTurn turn → IsOfHorizon signature horizon turn →
    IsPrintable signature horizon turn
turn_printable law signature horizon (turns.NoHistory empty) short few rows = tt
turn_printable law signature horizon (turns.Example number row) short few rows =
    λ d of. subst (λ (sizes : List ℕ). IsRow sizes row) (sizes_are d signature of horizon) rows
turn_printable law signature horizon (turns.Impossible position value lines) short few rows = short
turn_printable law signature horizon (turns.Answers position answers) short few rows = (few.1, atom_of law signature horizon position (length answers) rows)
turn_printable law signature horizon turns.Complete short few rows = tt
turn_printable law signature horizon turns.NoneAtAll short few rows = tt
turn_printable law signature horizon (turns.Spent atom lines) short few rows = short

pub step_printable : PositionsHaveSizes → (signature : Signature) (step : SureStep) → IsFitStep signature step → IsPrintable signature step.horizon step.turn
step_printable law signature step fit = turn_printable law signature step.horizon step.turn fit.short fit.few fit.rows
