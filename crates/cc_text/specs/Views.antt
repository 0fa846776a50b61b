-- What tokens are apart from where their texts lie in memory, and the statements that the tokens are cut into.
use Rattle.std.specs.Prelude.{ℕ, ◌-◌, ◌<◌, ◌≤◌, List, [], ◌∷◌, length, map, take, drop}
use Rattle.cc_defs.specs.declared.token.Token.{Token}
use Rattle.cc_defs.specs.Tokens.{TokenView}

abbrev pub token_view : Token → TokenView
token_view token = record { kind = token.kind; text = token.text.now; line = token.line }

abbrev pub token_views : List Token → List TokenView
token_views tokens = map token_view tokens

-- the pieces of a list that end before these places
abbrev pub cut_at : ℕ → List ℕ → List TokenView → List (List TokenView)
cut_at from [] items = []
cut_at from (end ∷ ends) items = take (end - from) (drop from items) ∷ cut_at end ends items

-- the places ascend within the list, so that no piece is empty
abbrev pub AreEnds : ℕ → List ℕ → ℕ → Type 0
AreEnds from [] count = from ≤ count
AreEnds from (end ∷ ends) count = (from < end) × AreEnds end ends count
