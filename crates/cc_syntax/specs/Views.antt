-- What a reader answers, in terms of what the grammar sees.
use Rattle.std.specs.List.{AllByRecursion}
use Rattle.std.specs.Prelude.{◌≡◌, ℕ, ◌≤◌, List, [], ◌∷◌, drop, length, Option, Some, None, Result, Ok, Err}
use Rattle.cc_defs.specs.declared.token.Token.{Token}
use Rattle.cc_defs.specs.declared.token.TokenKind.{TokenKind}
use Rattle.cc_defs.specs.declared.token.TokenKind.TheVariants as kinds
use Rattle.cc_defs.specs.Grammar.{Terminal, terminal, terminals}
use Rattle.cc_defs.specs.Tokens.{TokenView, kind_of}
use Rattle.cc_text.specs.Views.{token_view, token_views}
use Rattle.cc_syntax.specs.declared.stop.Stop.{Stop}
use Rattle.cc_syntax.specs.declared.stop.Stop.TheVariants as stops

-- what the grammar sees of the tokens
abbrev pub seen : List Token → List Terminal
seen tokens = terminals (token_views tokens)

-- the text of a token is of its kind, and a number has at most nine digits
pub record IsReadable (token : TokenView) : Type 0 where
  pub kind : kind_of token.text ≡ Some token.kind
  pub digits : token.kind ≡ kinds.Number → length token.text ≤ 9

-- what is asked of tokens that are read
abbrev pub AreReadable : List TokenView → Type 0
AreReadable tokens = AllByRecursion IsReadable tokens

-- the token at the place, if there is one, and the place behind it
abbrev pub Stands : List Token → ℕ → Option (Token × ℕ) → Type 0
Stands tokens at None = drop at (seen tokens) ≡ []
Stands tokens at (Some read) = drop at (seen tokens) ≡ terminal (token_view read.0) ∷ drop read.1 (seen tokens)

-- a reader gives what is read and the place behind it, as the definition has it; nothing only where the definition has
-- nothing, or where memory was wanting
abbrev pub Reads : {X Y : Type 0} → (X → Y) → List Token → Result (X × ℕ) Stop → Option (Y × List Terminal) → Type 0
Reads view tokens (Ok read) found = found ≡ Some (view read.0, drop read.1 (seen tokens))
Reads view tokens (Err stops.NoTree) found = found ≡ None
Reads view tokens (Err stops.OutOfMemory) found = Unit {0}

-- the same of what has no value
abbrev pub Passes : List Token → Result ℕ Stop → Option (List Terminal) → Type 0
Passes tokens (Ok next) found = found ≡ Some (drop next (seen tokens))
Passes tokens (Err stops.NoTree) found = found ≡ None
Passes tokens (Err stops.OutOfMemory) found = ⊥

-- the same while something else is kept
abbrev pub PassesBehind : {K : Type 0} → List Token → Result (K × ℕ) Stop → Option (List Terminal) → Type 0
PassesBehind tokens (Ok passed) found = found ≡ Some (drop passed.1 (seen tokens))
PassesBehind tokens (Err stops.NoTree) found = found ≡ None
PassesBehind tokens (Err stops.OutOfMemory) found = ⊥
