-- Version 2 of a log: entries of numbers in bytes, for keeping where version 1 is for reading.
use Rattle.std.specs.Prelude.{◌≡◌, ◌≢◌, ℕ, zero, suc, ◌+◌, ◌-◌, ◌*◌, ◌/◌, ◌%◌, ◌≤◌, ◌⊎◌, nat_lt, if◌then◌else◌, List, [], ◌∷◌, ◌++◌, flat_map, length, codes}
use Rattle.std.specs.List.{AllByRecursion}
use Rattle.cc_defs.specs.declared.log.EndWord.{EndWord}
use Rattle.cc_defs.specs.declared.log.EndWord.TheVariants as words
use Rattle.cc_defs.specs.declared.log.LogLine.{LogLine}
use Rattle.cc_defs.specs.declared.log.LogLine.TheVariants as lines
use Rattle.cc_defs.specs.declared.log.Version.{Version}
use Rattle.cc_defs.specs.declared.log.Version.TheVariants.{First, Second}
use Rattle.cc_defs.specs.Clauses.{Literal}
use Rattle.cc_defs.specs.LogTexts.{IsLine, IsOdd, IsShortLiteral}

-- ---- numbers

-- seven bits a byte, low bits first, and the high bit in all bytes but the last; at most so many bytes behind the first
abbrev pub bytes_within : ℕ → ℕ → List ℕ
bytes_within zero number = number ∷ []
bytes_within (suc more) number =
    if nat_lt number 128 then number ∷ [] else (128 + number % 128) ∷ bytes_within more (number / 128)

abbrev pub number_bytes : ℕ → List ℕ
number_bytes number = bytes_within 4 number

-- the number of a literal: twice its variable, and one more for its negation
abbrev pub literal_number : Literal → ℕ
literal_number literal = if literal.positive then 2 * literal.variable else 2 * literal.variable + 1

abbrev pub literal_bytes : Literal → List ℕ
literal_bytes literal = number_bytes (literal_number literal)

-- ---- entries

-- the first eight bytes of a log of version 2
abbrev pub binary_header : List ℕ
binary_header = codes "ccalclg2"

abbrev pub end_word_bytes : EndWord → List ℕ
end_word_bytes words.Empty = 5 ∷ []
end_word_bytes words.Found = 6 ∷ []
end_word_bytes words.Spent = 7 ∷ []

-- the bytes of a line: its kind, and its numbers; a list has its length before it, a chain the number of its pairs
abbrev pub entry_bytes : LogLine → List ℕ
entry_bytes (lines.Section conditions horizon) = (if conditions then 2 else 1) ∷ number_bytes horizon
entry_bytes (lines.Derived clause chain) =
    3 ∷ (number_bytes (length clause) ++ flat_map literal_bytes clause ++ number_bytes (length chain / 2) ++ flat_map number_bytes chain)
entry_bytes (lines.Block row) = 4 ∷ (number_bytes (length row) ++ flat_map number_bytes row)
entry_bytes (lines.End word) = end_word_bytes word

abbrev pub IsNumber : ℕ → Type 0
IsNumber number = number ≤ 1999999999

abbrev pub HasNumbers : LogLine → Type 0
HasNumbers (lines.Section conditions horizon) = IsNumber horizon
HasNumbers (lines.Derived clause chain) =
    IsNumber (length clause) × AllByRecursion IsShortLiteral clause × IsNumber (length chain / 2) × AllByRecursion IsNumber chain × IsOdd (length chain)
HasNumbers (lines.Block row) = IsNumber (length row) × AllByRecursion IsNumber row
HasNumbers (lines.End word) = Unit {0}

-- Bytes are read as a line whose chain has distances in place of the numbers of clauses; no bytes are those of two lines.
pub record IsEntry (bytes : List ℕ) (line : LogLine) : Type 0 where
  pub formed : HasNumbers line
  pub spelled : bytes ≡ entry_bytes line

-- ---- entries at the front of bytes

-- Bytes begin with the entry of a line, and this is behind it.
pub record BeginsWith (bytes : List ℕ) (line : LogLine) (rest : List ℕ) : Type 0 where
  pub entry : List ℕ
  pub read : IsEntry entry line
  pub spelled : bytes ≡ entry ++ rest

-- bytes begin with the entry of no line
abbrev pub HasNoEntry : List ℕ → Type 0
HasNoEntry bytes = (line : LogLine) (rest : List ℕ) → BeginsWith bytes line rest → ⊥

-- the texts of the entries of bytes, one behind the other; what begins with no entry is one last text, to the end
abbrev pub AreEntries : List ℕ → List (List ℕ) → Type 0
AreEntries bytes [] = bytes ≡ []
AreEntries bytes (text ∷ texts) =
    ((line : LogLine) × IsEntry text line × ((rest : List ℕ) × (bytes ≡ text ++ rest) × AreEntries rest texts))
    ⊎ (HasNoEntry bytes × (bytes ≢ []) × (text ≡ bytes) × (texts ≡ []))

-- ---- distances in place of numbers

-- A distance is the number of the line's own clause less that of the clause that is named. One of 0, or one that is not less than
-- the own number, names no earlier clause.
abbrev pub chain_behind : ℕ → List ℕ → List ℕ
chain_behind own [] = []
chain_behind own (distance ∷ []) = (own - distance) ∷ []
chain_behind own (distance ∷ pivot ∷ chain) = (own - distance) ∷ pivot ∷ chain_behind own chain

abbrev pub line_behind : ℕ → LogLine → LogLine
line_behind own (lines.Section conditions horizon) = lines.Section conditions horizon
line_behind own (lines.Derived clause chain) = lines.Derived clause (chain_behind own chain)
line_behind own (lines.Block row) = lines.Block row
line_behind own (lines.End word) = lines.End word

-- ---- both versions

-- bytes are those of a line, as this version writes it
abbrev pub IsSpelled : Version → List ℕ → LogLine → Type 0
IsSpelled First text line = IsLine text line
IsSpelled Second text line = IsEntry text line

-- what a line that is written so says, where its own clause has this number
abbrev pub line_meant : Version → ℕ → LogLine → LogLine
line_meant First own line = line
line_meant Second own line = line_behind own line
