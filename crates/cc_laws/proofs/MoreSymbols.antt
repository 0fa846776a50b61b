-- Where more declarations stand behind, each symbol has one of its number and kind.
use Rattle.std.proofs.Common.{◌≡◌, ◌∙◌, ℕ, List, ◌++◌, slice_get, Some, sym, ap, subst}
use Rattle.std.specs.Option.{option_map}
use Rattle.std.proofs.lemmas.Grind.{flat_map-append}
use Rattle.std.proofs.lemmas.Option.{slice_get-map}
use Rattle.cc_defs.specs.declared.signature.Symbol.{Symbol}
use Rattle.cc_defs.specs.Declarations.{Declaration, Declared, constant_declared, constants, symbol_of, symbols}
use Rattle.cc_laws.proofs.EachOf.{slice_front, slice_mapped}
use Rattle.cc_laws.proofs.FormsOfSplits.{GoesOn}

-- a constant by its number
pub constant_stays : (left more : List Declaration) (number : ℕ) (constant : Declared) → slice_get (constants left) number ≡ Some constant → slice_get (constants (left ++ more)) number ≡ Some constant
constant_stays left more number constant e =
    subst (λ (w : List Declared). slice_get w number ≡ Some constant) (sym (flat_map-append constant_declared left more)) (slice_front (constants left) (constants more) number constant e)

pub goes_on : (left more : List Declaration) → GoesOn (symbols left) (symbols (left ++ more))
goes_on left more number symbol e =
    let at = slice_mapped (symbol_of left) (constants left) number symbol e in
    let stays = constant_stays left more number at.0 at.1 in (
      symbol_of (left ++ more) at.0,
      slice_get-map (symbol_of (left ++ more)) (constants (left ++ more)) number ∙ ap (option_map (symbol_of (left ++ more))) stays,
      ap (λ (w : Symbol). w.kind) (sym at.2),
    )
