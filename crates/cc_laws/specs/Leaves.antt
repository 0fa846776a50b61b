-- What a formula is made of: its terms, sums and brackets in the order of the text, and the names in a term.
use Rattle.std.specs.Prelude.{ℕ, ◌+◌, List, [], ◌∷◌, ◌++◌, Option, Some, None}
use Rattle.cc_defs.specs.Trees.{Comparison, PlainTerm, Applied, PlainSums, NoSums, MoreSums, PlainSum, Summed, PlainPiece, Numeral, Called, PlainAddends, NoAddends, MoreAddends, PlainTree}
use Rattle.cc_defs.specs.Trees as trees

-- a term alone, two sums with a sign of comparison between them, and a bracket's name
pub data Leaf : Type 0 where
  Bare : PlainTerm → Leaf
  Compared : Comparison → PlainSum → PlainSum → Leaf
  Bracket : (name : List ℕ) → Leaf

abbrev pub leaves : PlainTree → List Leaf
leaves (trees.Bare term) = Bare term ∷ []
leaves (trees.Compared comparison s t) = Compared comparison s t ∷ []
leaves (trees.Paren f) = leaves f
leaves (trees.Not f) = leaves f
leaves (trees.Both f g) = leaves f ++ leaves g
leaves (trees.Either f g) = leaves f ++ leaves g
leaves (trees.Implies f g) = leaves f ++ leaves g
leaves (trees.Same f g) = leaves f ++ leaves g
leaves (trees.ForAll name f) = Bracket name ∷ leaves f
leaves (trees.Exists name f) = Bracket name ∷ leaves f

-- a name that stands in a term, with the number of its arguments
pub record Mention : Type 0 where
  pub name : List ℕ
  pub count : ℕ

abbrev pub sum_count : PlainSums → ℕ
sum_count NoSums = 0
sum_count (MoreSums first others) = 1 + sum_count others

abbrev mutual
  pub mentions : PlainTerm → List Mention
  mentions (Applied name args) = record { name = name; count = sum_count args } ∷ argument_mentions args

  pub argument_mentions : PlainSums → List Mention
  argument_mentions NoSums = []
  argument_mentions (MoreSums first others) = sum_mentions first ++ argument_mentions others

  pub sum_mentions : PlainSum → List Mention
  sum_mentions (Summed first addends) = piece_mentions first ++ addend_mentions addends

  pub piece_mentions : PlainPiece → List Mention
  piece_mentions (Numeral number) = []
  piece_mentions (Called term) = mentions term

  pub addend_mentions : PlainAddends → List Mention
  addend_mentions NoAddends = []
  addend_mentions (MoreAddends minus piece others) = piece_mentions piece ++ addend_mentions others

abbrev pub term_name : PlainTerm → List ℕ
term_name (Applied name args) = name

abbrev pub term_args : PlainTerm → PlainSums
term_args (Applied name args) = args

-- ---- sums of one piece, and their pieces

-- the term that a sum is
abbrev pub lone : PlainSum → Option PlainTerm
lone (Summed (Called term) NoAddends) = Some term
lone (Summed (Called term) (MoreAddends minus piece others)) = None
lone (Summed (Numeral number) _) = None

abbrev pub added_pieces : PlainAddends → List PlainPiece
added_pieces NoAddends = []
added_pieces (MoreAddends minus piece others) = piece ∷ added_pieces others

abbrev pub pieces : PlainSum → List PlainPiece
pieces (Summed first addends) = first ∷ added_pieces addends
