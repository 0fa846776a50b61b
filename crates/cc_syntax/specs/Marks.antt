-- Whether two marks are the same, by their numbers in the order of the type.
use Rattle.std.specs.Prelude.{ℕ, Bool, ◌==◌}
use Rattle.cc_defs.specs.declared.token.Mark.{Mark}
use Rattle.cc_defs.specs.declared.token.Mark.TheVariants as marks

abbrev pub mark_number : Mark → ℕ
mark_number marks.Turn = 0
mark_number marks.DoubleColon = 1
mark_number marks.Colon = 2
mark_number marks.Semicolon = 3
mark_number marks.Comma = 4
mark_number marks.DotDot = 5
mark_number marks.Dot = 6
mark_number marks.LeftParen = 7
mark_number marks.RightParen = 8
mark_number marks.LeftBracket = 9
mark_number marks.RightBracket = 10
mark_number marks.Bar = 11
mark_number marks.AllSign = 12
mark_number marks.AnySign = 13
mark_number marks.NotEqual = 14
mark_number marks.And = 15
mark_number marks.Or = 16
mark_number marks.Plus = 17
mark_number marks.Arrow = 18
mark_number marks.Minus = 19
mark_number marks.DoubleArrow = 20
mark_number marks.Less = 21
mark_number marks.AtMost = 22
mark_number marks.Equal = 23
mark_number marks.Above = 24
mark_number marks.AtLeast = 25
mark_number marks.More = 26

abbrev pub same_mark : Mark → Mark → Bool
same_mark one other = mark_number one == mark_number other
