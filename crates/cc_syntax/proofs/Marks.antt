-- Two marks with one number are one.
use Rattle.std.proofs.Common.{◌≡◌, ℕ, true, List, [], ◌∷◌, slice_index_or, refl, ap, sym, ◌∙◌}
use Rattle.std.proofs.lemmas.Bool.{eqb-true}
use Rattle.cc_defs.specs.declared.token.Mark.{Mark}
use Rattle.cc_defs.specs.declared.token.Mark.TheVariants as marks
use Rattle.cc_syntax.specs.Marks.{mark_number, same_mark}

abbrev all_marks : List Mark
all_marks = marks.Turn ∷ marks.DoubleColon ∷ marks.Colon ∷ marks.Semicolon ∷ marks.Comma ∷ marks.DotDot ∷ marks.Dot ∷ marks.LeftParen ∷ marks.RightParen ∷ marks.LeftBracket ∷ marks.RightBracket ∷ marks.Bar ∷ marks.AllSign ∷ marks.AnySign ∷ marks.NotEqual ∷ marks.And ∷ marks.Or ∷ marks.Plus ∷ marks.Arrow ∷ marks.Minus ∷ marks.DoubleArrow ∷ marks.Less ∷ marks.AtMost ∷ marks.Equal ∷ marks.Above ∷ marks.AtLeast ∷ marks.More ∷ []

abbrev mark_with : ℕ → Mark
mark_with n = slice_index_or all_marks n marks.Turn

mark_with-number : (mark : Mark) → mark_with (mark_number mark) ≡ mark
mark_with-number marks.Turn = refl
mark_with-number marks.DoubleColon = refl
mark_with-number marks.Colon = refl
mark_with-number marks.Semicolon = refl
mark_with-number marks.Comma = refl
mark_with-number marks.DotDot = refl
mark_with-number marks.Dot = refl
mark_with-number marks.LeftParen = refl
mark_with-number marks.RightParen = refl
mark_with-number marks.LeftBracket = refl
mark_with-number marks.RightBracket = refl
mark_with-number marks.Bar = refl
mark_with-number marks.AllSign = refl
mark_with-number marks.AnySign = refl
mark_with-number marks.NotEqual = refl
mark_with-number marks.And = refl
mark_with-number marks.Or = refl
mark_with-number marks.Plus = refl
mark_with-number marks.Arrow = refl
mark_with-number marks.Minus = refl
mark_with-number marks.DoubleArrow = refl
mark_with-number marks.Less = refl
mark_with-number marks.AtMost = refl
mark_with-number marks.Equal = refl
mark_with-number marks.Above = refl
mark_with-number marks.AtLeast = refl
mark_with-number marks.More = refl

pub same-mark : (one other : Mark) → same_mark one other ≡ true → one ≡ other
same-mark one other e = sym (mark_with-number one) ∙ ap mark_with (eqb-true (mark_number one) (mark_number other) e) ∙ mark_with-number other

pub mark-same : (mark : Mark) → same_mark mark mark ≡ true
mark-same marks.Turn = refl
mark-same marks.DoubleColon = refl
mark-same marks.Colon = refl
mark-same marks.Semicolon = refl
mark-same marks.Comma = refl
mark-same marks.DotDot = refl
mark-same marks.Dot = refl
mark-same marks.LeftParen = refl
mark-same marks.RightParen = refl
mark-same marks.LeftBracket = refl
mark-same marks.RightBracket = refl
mark-same marks.Bar = refl
mark-same marks.AllSign = refl
mark-same marks.AnySign = refl
mark-same marks.NotEqual = refl
mark-same marks.And = refl
mark-same marks.Or = refl
mark-same marks.Plus = refl
mark-same marks.Arrow = refl
mark-same marks.Minus = refl
mark-same marks.DoubleArrow = refl
mark-same marks.Less = refl
mark-same marks.AtMost = refl
mark-same marks.Equal = refl
mark-same marks.Above = refl
mark-same marks.AtLeast = refl
mark-same marks.More = refl
