-- The text of a log, and the lines that a text is read as: one relation, read in both directions.
use Rattle.std.specs.Prelude.{◌≡◌, ℕ, ◌+◌, ◌*◌, ◌≤◌, ◌<◌, ◌==◌, if◌then◌else◌, List, [], ◌∷◌, ◌++◌, map, flat_map, length, codes, decimal}
use Rattle.std.specs.List.{AllByRecursion, join_with_byte}
use Rattle.cc_defs.specs.declared.log.Cause.{Cause}
use Rattle.cc_defs.specs.declared.log.Cause.TheVariants as causes
use Rattle.cc_defs.specs.declared.log.EndWord.{EndWord}
use Rattle.cc_defs.specs.declared.log.EndWord.TheVariants as words
use Rattle.cc_defs.specs.declared.log.LogLine.{LogLine}
use Rattle.cc_defs.specs.declared.log.LogLine.TheVariants as lines
use Rattle.cc_defs.specs.Clauses.{Literal}

abbrev pub literal_text : Literal → List ℕ
literal_text literal = if literal.positive then decimal literal.variable else codes "-" ++ decimal literal.variable

abbrev pub end_word_text : EndWord → List ℕ
end_word_text words.Empty = codes "empty"
end_word_text words.Found = codes "found"
end_word_text words.Spent = codes "spent"

-- the parts of a line
abbrev pub line_parts : LogLine → List (List ℕ)
line_parts (lines.Section conditions horizon) = (if conditions then codes "w" else codes "h") ∷ decimal horizon ∷ []
line_parts (lines.Derived clause chain) = codes "d" ∷ (map literal_text clause ++ codes "0" ∷ (map decimal chain ++ codes "0" ∷ []))
line_parts (lines.Block row) = codes "b" ∷ map decimal row
line_parts (lines.End word) = codes "e" ∷ end_word_text word ∷ []

-- the text of a line: its parts, with one space between each two, and a line feed
abbrev pub line_text : LogLine → List ℕ
line_text line = join_with_byte 32 (line_parts line) ++ 10 ∷ []

-- the first line of a log
abbrev pub header : List ℕ
header = codes "ccalc log 1" ++ 10 ∷ []

-- the text of a log of these lines
abbrev pub log_text : List LogLine → List ℕ
log_text all = header ++ flat_map line_text all

-- ---- what a log may say: numbers of at most nine digits, literals of variables, chains of a number and pairs

abbrev pub IsShort : ℕ → Type 0
IsShort number = number ≤ 999999999

abbrev pub IsShortLiteral : Literal → Type 0
IsShortLiteral literal = (0 < literal.variable) × IsShort literal.variable

abbrev pub IsOdd : ℕ → Type 0
IsOdd number = (half : ℕ) × (number ≡ 2 * half + 1)

abbrev pub IsFormed : LogLine → Type 0
IsFormed (lines.Section conditions horizon) = IsShort horizon
IsFormed (lines.Derived clause chain) = AllByRecursion IsShortLiteral clause × AllByRecursion IsShort chain × IsOdd (length chain)
IsFormed (lines.Block row) = AllByRecursion IsShort row
IsFormed (lines.End word) = Unit {0}

-- A text, with its line feed, is read as a line; no text is that of two lines.
pub record IsLine (text : List ℕ) (line : LogLine) : Type 0 where
  pub formed : IsFormed line
  pub spelled : text ≡ line_text line

-- ---- the lines of a text, each with its line feed; the last may have none

abbrev pub before_lines : ℕ → List (List ℕ) → List (List ℕ)
before_lines byte [] = (byte ∷ []) ∷ []
before_lines byte (line ∷ lines) = (byte ∷ line) ∷ lines

abbrev pub lines_in : List ℕ → List (List ℕ)
lines_in [] = []
lines_in (byte ∷ bytes) = if byte == 10 then (10 ∷ []) ∷ lines_in bytes else before_lines byte (lines_in bytes)

-- ---- what is wrong with a line, in words

abbrev pub cause_words : Cause → List ℕ
cause_words causes.Header = codes "header"
cause_words causes.Form = codes "form"
cause_words causes.Section = codes "section"
cause_words causes.Literal = codes "literal"
cause_words causes.Number = codes "number"
cause_words causes.Pivot = codes "pivot"
cause_words causes.Clause = codes "clause"
cause_words causes.Row = codes "row"
cause_words causes.NotRefuted = codes "not refuted"
