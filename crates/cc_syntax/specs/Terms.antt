-- Readers of terms and sums.
use Rattle.std.specs.Prelude.{ℕ, zero, suc, Bool, true, false, ◌||◌, if◌then◌else◌, List, [], ◌∷◌, ◌++◌, length, Some, None}
use Rattle.cc_defs.specs.declared.token.Mark.TheVariants as marks
use Rattle.cc_defs.specs.declared.tree.Addend.{Addend}
use Rattle.cc_defs.specs.Trees.{PlainTerm, Applied, PlainSums, NoSums, MoreSums, PlainSum, Summed, PlainPiece, Numeral, Called, PlainAddends, NoAddends, MoreAddends, plain_piece}
use Rattle.cc_defs.specs.Grammar.{Word, Sign, is_name, is_value_word}
use Rattle.cc_syntax.specs.Readers.{Reader, given, ◌>>=◌, name_at, numeral_at, sign_at, ◌◁◌}

abbrev pub sums_of : List PlainSum → PlainSums
sums_of [] = NoSums
sums_of (sum ∷ sums) = MoreSums sum (sums_of sums)

-- whether a piece is taken away, and the piece
abbrev pub PlainAddend : Type 0
PlainAddend = Bool × PlainPiece

abbrev pub plain_addend : Addend → PlainAddend
plain_addend addend = (addend.minus, plain_piece addend.piece)

abbrev pub addends_of : List PlainAddend → PlainAddends
addends_of [] = NoAddends
addends_of (addend ∷ addends) = MoreAddends addend.0 addend.1 (addends_of addends)

-- a name with a bracket behind it
abbrev pub call_at : Reader (List ℕ)
call_at = name_at ◁ sign_at marks.LeftParen

-- a term without arguments
abbrev pub leaf_at : Reader PlainTerm
leaf_at (Word text ∷ rest) = if is_name text || is_value_word text then Some (Applied text NoSums, rest) else None
leaf_at tokens = None

-- the sign before a piece, and whether it takes it away
abbrev pub additive_at : Reader Bool
additive_at (Sign marks.Plus ∷ rest) = Some (false, rest)
additive_at (Sign marks.Minus ∷ rest) = Some (true, rest)
additive_at tokens = None

-- ---- sums, by a reader of terms

abbrev pub piece_by : Reader PlainTerm → Reader PlainPiece
piece_by term tokens =
    given (numeral_at tokens) (term tokens >>= λ read. Some (Called read.0, read.1)) (λ number. Some (Numeral number.0, number.1))

-- pieces with their signs, behind those found; at most so many
unfoldable pub addends_from : Reader PlainTerm → ℕ → List PlainAddend → Reader (List PlainAddend)
addends_from term zero found tokens = Some (found, tokens)
addends_from term (suc n) found tokens =
    given (additive_at tokens) (Some (found, tokens))
    (λ sign. piece_by term sign.1 >>= λ read. addends_from term n (found ++ (sign.0, read.0) ∷ []) read.1)

abbrev pub addends_by : Reader PlainTerm → Reader (List PlainAddend)
addends_by term tokens = addends_from term (length tokens) [] tokens

abbrev pub sum_by : Reader PlainTerm → Reader PlainSum
sum_by term tokens =
    piece_by term tokens >>= λ first. addends_by term first.1 >>= λ others. Some (Summed first.0 (addends_of others.0), others.1)

-- ---- terms

-- a term that is nested and has arguments at most so many times; arguments behind those found
unfoldable mutual
  pub term_from : ℕ → Reader PlainTerm
  term_from zero tokens = None
  term_from (suc n) tokens =
      given (call_at tokens) (leaf_at tokens)
      (λ call. args_from n [] call.1 >>= λ args. Some (Applied call.0 (sums_of args.0), args.1))

  pub args_from : ℕ → List PlainSum → Reader (List PlainSum)
  args_from zero found tokens = None
  args_from (suc n) found tokens =
      sum_by (term_from n) tokens >>= λ read.
      given (sign_at marks.Comma read.1)
      (sign_at marks.RightParen read.1 >>= λ rest. Some (found ++ read.0 ∷ [], rest))
      (args_from n (found ++ read.0 ∷ []))

abbrev pub term_at : Reader PlainTerm
term_at tokens = term_from (length tokens) tokens

abbrev pub sum_at : Reader PlainSum
sum_at tokens = sum_by (term_from (length tokens)) tokens
