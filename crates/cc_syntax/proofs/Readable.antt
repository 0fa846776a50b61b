-- The tokens of a text can be read.
use Rattle.std.proofs.Common.{◌≡◌, ℕ, ◌<◌, ◌≤◌, List, [], ◌∷◌, length, refl, arith}
use Rattle.cc_defs.specs.declared.refusal.LimitAt.TheVariants as limits
use Rattle.cc_defs.specs.declared.token.TokenKind.{TokenKind}
use Rattle.cc_defs.specs.declared.token.TokenKind.TheVariants as kinds
use Rattle.cc_defs.specs.Tokens.{TokenView, AreTokens, IsShort}
use Rattle.cc_syntax.specs.Views.{AreReadable}

few_digits : (kind : TokenKind) (text : List ℕ) (line : ℕ) → IsShort (record { kind = kind; text = text; line = line }) → kind ≡ kinds.Number → length text ≤ 9
few_digits kinds.Word text line short e = absurd cc
few_digits kinds.Number text line short e = (let f : 9 < length text → ⊥ = λ h. short limits.NumberDigits (refl, h) in omega arith)
few_digits kinds.Quoted text line short e = absurd cc
few_digits (kinds.Mark mark) text line short e = absurd cc

pub readable : (tokens : List TokenView) → AreTokens tokens → AreReadable tokens
readable [] are = tt
readable (token ∷ tokens) are = (record { kind = are.0.0; digits = few_digits token.kind token.text token.line are.0.1 }, readable tokens are.1)
