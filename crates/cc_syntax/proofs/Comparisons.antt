-- The signs of comparisons, as they are read and spelled.
use Rattle.std.proofs.Common.{◌≡◌, List, ◌∷◌, Some, refl, ap}
use Rattle.cc_defs.specs.declared.token.Mark.TheVariants as marks
use Rattle.cc_defs.specs.Trees.{Comparison, IsEqual, Differs, IsLess, IsAtMost, IsMore, IsAtLeast}
use Rattle.cc_defs.specs.Grammar.{Terminal, Sign, comparing}
use Rattle.cc_syntax.specs.Operators.{comparison_at}
use Rattle.cc_syntax.proofs.Singles.{some-is}

abbrev spelled : Comparison × List Terminal → List Terminal
spelled read = Sign (comparing read.0) ∷ read.1

pub comparison-takes : (tokens : List Terminal) (read : Comparison × List Terminal) → comparison_at tokens ≡ Some read → tokens ≡ Sign (comparing read.0) ∷ read.1
comparison-takes (Sign marks.Equal ∷ rest) read e = ap spelled (some-is (IsEqual, rest) read e)
comparison-takes (Sign marks.NotEqual ∷ rest) read e = ap spelled (some-is (Differs, rest) read e)
comparison-takes (Sign marks.Less ∷ rest) read e = ap spelled (some-is (IsLess, rest) read e)
comparison-takes (Sign marks.AtMost ∷ rest) read e = ap spelled (some-is (IsAtMost, rest) read e)
comparison-takes (Sign marks.More ∷ rest) read e = ap spelled (some-is (IsMore, rest) read e)
comparison-takes (Sign marks.AtLeast ∷ rest) read e = ap spelled (some-is (IsAtLeast, rest) read e)
comparison-takes tokens read e = absurd cc

pub comparison-here : (comparison : Comparison) (rest : List Terminal) → comparison_at (Sign (comparing comparison) ∷ rest) ≡ Some (comparison, rest)
comparison-here IsEqual rest = refl
comparison-here Differs rest = refl
comparison-here IsLess rest = refl
comparison-here IsAtMost rest = refl
comparison-here IsMore rest = refl
comparison-here IsAtLeast rest = refl
