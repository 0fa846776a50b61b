-- What a reader is to do for a spelling: what it reads is spelled so, and what is spelled so it reads, where the rest does
-- not go on with it. Each value has one token at least.
use Rattle.std.proofs.Common.{◌≡◌, ◌<◌, Bool, true, false, List, ◌∷◌, length, Some}
use Rattle.cc_defs.specs.declared.token.Mark.TheVariants as marks
use Rattle.cc_defs.specs.Grammar.{Terminal, Sign, Spelling}
use Rattle.cc_syntax.specs.Readers.{Reader, Literal}

pub record IsReader {X : Type 0} (reader : Reader X) (spelling : X → Spelling) (stops : List Terminal → Bool) : Type 0 where
  pub takes : (tokens : List Terminal) (read : X × List Terminal) → reader tokens ≡ Some read → spelling read.0 tokens read.1
  pub again : (x : X) (tokens rest : List Terminal) → spelling x tokens rest → stops rest ≡ true → reader tokens ≡ Some (x, rest)
  pub shorter : (x : X) (tokens rest : List Terminal) → spelling x tokens rest → length rest < length tokens

-- the same of what has no value
pub record IsLiteral (literal : Literal) (spelling : Spelling) : Type 0 where
  pub takes : (tokens rest : List Terminal) → literal tokens ≡ Some rest → spelling tokens rest
  pub again : (tokens rest : List Terminal) → spelling tokens rest → literal tokens ≡ Some rest
  pub shorter : (tokens rest : List Terminal) → spelling tokens rest → length rest < length tokens

-- it may end anywhere
abbrev pub anywhere : List Terminal → Bool
anywhere rest = true

-- a term may end before this
abbrev pub ends_term : List Terminal → Bool
ends_term (Sign marks.LeftParen ∷ rest) = false
ends_term rest = true

-- a sum may end before this
abbrev pub ends_sum : List Terminal → Bool
ends_sum (Sign marks.LeftParen ∷ rest) = false
ends_sum (Sign marks.Plus ∷ rest) = false
ends_sum (Sign marks.Minus ∷ rest) = false
ends_sum rest = true

-- a formula may end before this
abbrev pub ends_formula : List Terminal → Bool
ends_formula (Sign marks.LeftParen ∷ rest) = false
ends_formula (Sign marks.Plus ∷ rest) = false
ends_formula (Sign marks.Minus ∷ rest) = false
ends_formula (Sign marks.Equal ∷ rest) = false
ends_formula (Sign marks.NotEqual ∷ rest) = false
ends_formula (Sign marks.Less ∷ rest) = false
ends_formula (Sign marks.AtMost ∷ rest) = false
ends_formula (Sign marks.More ∷ rest) = false
ends_formula (Sign marks.AtLeast ∷ rest) = false
ends_formula (Sign marks.And ∷ rest) = false
ends_formula (Sign marks.Or ∷ rest) = false
ends_formula (Sign marks.Arrow ∷ rest) = false
ends_formula (Sign marks.DoubleArrow ∷ rest) = false
ends_formula rest = true
