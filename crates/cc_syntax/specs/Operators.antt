-- The operators and their strengths, and the signs of comparisons.
use Rattle.std.specs.Prelude.{ℕ, ◌∷◌, Some, None}
use Rattle.cc_defs.specs.declared.token.Mark.TheVariants as marks
use Rattle.cc_defs.specs.Trees.{PlainTree, Both, Either, Implies, Same, Comparison, IsEqual, Differs, IsLess, IsAtMost, IsMore, IsAtLeast}
use Rattle.cc_defs.specs.Grammar.{Sign}
use Rattle.cc_syntax.specs.declared.operators.Operator.{Operator}
use Rattle.cc_syntax.specs.declared.operators.Operator.TheVariants as operators
use Rattle.cc_syntax.specs.declared.operators.Comparing.{Comparing}
use Rattle.cc_syntax.specs.declared.operators.Comparing.TheVariants as signs
use Rattle.cc_syntax.specs.Readers.{Reader}

abbrev pub operator_at : Reader Operator
operator_at (Sign marks.And ∷ rest) = Some (operators.Both, rest)
operator_at (Sign marks.Or ∷ rest) = Some (operators.Either, rest)
operator_at (Sign marks.Arrow ∷ rest) = Some (operators.Implies, rest)
operator_at (Sign marks.DoubleArrow ∷ rest) = Some (operators.Same, rest)
operator_at tokens = None

-- of the formula that the operator makes, and the greatest of its left and of its right operand
abbrev pub strength : Operator → ℕ
strength operators.Both = 1
strength operators.Either = 2
strength operators.Implies = 3
strength operators.Same = 4

abbrev pub left_strength : Operator → ℕ
left_strength operators.Both = 1
left_strength operators.Either = 2
left_strength operators.Implies = 2
left_strength operators.Same = 4

abbrev pub right_strength : Operator → ℕ
right_strength operators.Both = 0
right_strength operators.Either = 1
right_strength operators.Implies = 3
right_strength operators.Same = 3

abbrev pub joined : Operator → PlainTree → PlainTree → PlainTree
joined operators.Both f g = Both f g
joined operators.Either f g = Either f g
joined operators.Implies f g = Implies f g
joined operators.Same f g = Same f g

-- ---- comparisons

abbrev pub compared_as : Comparing → Comparison
compared_as signs.Equal = IsEqual
compared_as signs.Differ = Differs
compared_as signs.Less = IsLess
compared_as signs.AtMost = IsAtMost
compared_as signs.More = IsMore
compared_as signs.AtLeast = IsAtLeast

abbrev pub comparison_at : Reader Comparison
comparison_at (Sign marks.Equal ∷ rest) = Some (IsEqual, rest)
comparison_at (Sign marks.NotEqual ∷ rest) = Some (Differs, rest)
comparison_at (Sign marks.Less ∷ rest) = Some (IsLess, rest)
comparison_at (Sign marks.AtMost ∷ rest) = Some (IsAtMost, rest)
comparison_at (Sign marks.More ∷ rest) = Some (IsMore, rest)
comparison_at (Sign marks.AtLeast ∷ rest) = Some (IsAtLeast, rest)
comparison_at tokens = None
