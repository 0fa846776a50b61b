-- The printed texts.
use Rattle.std.specs.Prelude.{ℕ, ◌+◌, ◌==◌, if◌then◌else◌, Bool, List, [], ◌∷◌, ◌++◌, length, zero, suc, unwrap_or, slice_get, slice_index, option_map, codes, decimal, map}
use Rattle.std.specs.List.{join_with_byte}
use Rattle.cc_defs.specs.declared.signature.Const.{Const}
use Rattle.cc_defs.specs.Description.{Description, values_at}
use Rattle.cc_defs.specs.Signatures.{none_value}
use Rattle.cc_defs.specs.Universe.{is_boolean_symbol}

-- a key: the horizon, a colon, and the indexes with a comma between them
abbrev pub key_text : ℕ → List ℕ → List ℕ
key_text horizon row = decimal horizon ++ codes ":" ++ join_with_byte 44 (map decimal row)

abbrev pub object_text : Description → ℕ → List ℕ
object_text d object = if object == none_value then codes "none" else unwrap_or (slice_get d.objects object) []

-- the name of a constant's symbol
abbrev pub symbol_text : Description → ℕ → List ℕ
symbol_text d symbol = unwrap_or (option_map (λ declared. declared.name) (slice_get d.universe.symbols symbol)) []

-- arguments in parentheses, with a comma between them
abbrev pub arguments_text : Description → List ℕ → List ℕ
arguments_text d [] = []
arguments_text d (object ∷ objects) = codes "(" ++ join_with_byte 44 (map (object_text d) (object ∷ objects)) ++ codes ")"

abbrev pub constant_text : Description → Const → List ℕ
constant_text d constant = symbol_text d constant.symbol ++ arguments_text d constant.args

abbrev pub is_boolean : Description → Const → Bool
is_boolean d constant = is_boolean_symbol (slice_get d.universe.symbols constant.symbol)

-- a constant with its value: a Boolean one by its name where it is true, and not at all where it is false
abbrev pub shown : Description → Const → ℕ → List ℕ
shown d constant value =
    if is_boolean d constant then (if value == 1 then codes "  " ++ constant_text d constant else [])
    else codes "  " ++ constant_text d constant ++ codes "=" ++ object_text d value

-- the constants from a number on, at a step
abbrev pub constants_shown : Description → List Const → ℕ → (ℕ → ℕ) → List ℕ
constants_shown d [] number valuation = []
constants_shown d (constant ∷ constants) number valuation =
    shown d constant (slice_index constant.domain (valuation number)) ++ constants_shown d constants (number + 1) valuation

-- the line of a state, and that of the actions of a step
abbrev pub state_text : Description → List ℕ → ℕ → List ℕ
state_text d row step = decimal step ++ codes ":" ++ constants_shown d d.universe.fluents 0 (values_at d row step) ++ 10 ∷ []

abbrev pub actions_text : Description → List ℕ → ℕ → List ℕ
actions_text d row step = codes "ACTIONS:" ++ constants_shown d d.universe.actions (length d.universe.fluents) (values_at d row step) ++ 10 ∷ []

-- a history: its states, with the actions between them
abbrev pub history_text : Description → ℕ → List ℕ → List ℕ
history_text d zero row = state_text d row 0
history_text d (suc horizon) row = history_text d horizon row ++ actions_text d row horizon ++ state_text d row (suc horizon)

-- the line of a key
abbrev pub key_line : ℕ → List ℕ → List ℕ
key_line horizon row = codes "key " ++ key_text horizon row ++ 10 ∷ []
