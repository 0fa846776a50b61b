-- Entries of version 2 of a log: what is asked of a line that is written as one, and what stands at the front of bytes.
use Rattle.std.specs.Prelude.{ℕ, ◌≡◌, zero, suc, ◌+◌, ◌*◌, ◌<◌, ◌≤◌, Bool, List, [], ◌∷◌, ◌++◌, length, flat_map}
use Rattle.std.specs.List.{AllByRecursion}
use Rattle.cc_defs.specs.declared.log.EndWord.{EndWord}
use Rattle.cc_defs.specs.declared.log.LogLine.{LogLine}
use Rattle.cc_defs.specs.declared.log.LogLine.TheVariants as lines
use Rattle.cc_defs.specs.Clauses.{Literal}
use Rattle.cc_defs.specs.LogBytes.{BeginsWith, IsNumber, bytes_within, end_word_bytes, number_bytes, literal_bytes}
use Rattle.cc_defs.specs.LogTexts.{IsShort, IsShortLiteral}

-- ---- what is written

-- each list of the line has at most 999999999 members
abbrev pub HasShortLists : LogLine → Type 0
HasShortLists (lines.Section conditions horizon) = Unit {0}
HasShortLists (lines.Derived clause chain) = IsShort (length clause) × IsShort (length chain)
HasShortLists (lines.Block row) = IsShort (length row)
HasShortLists (lines.End word) = Unit {0}

-- the numbers of clauses in a chain, the first number and then every second one, are below this one
abbrev pub AreBefore : ℕ → List ℕ → Type 0
AreBefore own [] = Unit {0}
AreBefore own (number ∷ []) = number < own
AreBefore own (number ∷ pivot ∷ chain) = (number < own) × AreBefore own chain

-- a chain of the line names clauses below this one alone
abbrev pub NamesBefore : ℕ → LogLine → Type 0
NamesBefore own (lines.Section conditions horizon) = Unit {0}
NamesBefore own (lines.Derived clause chain) = AreBefore own chain
NamesBefore own (lines.Block row) = Unit {0}
NamesBefore own (lines.End word) = Unit {0}

-- ---- numbers at the front of bytes

-- the greatest number of at most so many bytes behind the first
abbrev pub most_within : ℕ → ℕ
most_within zero = 127
most_within (suc more) = 128 * most_within more + 127

-- Bytes begin with a number of at most so many bytes behind the first, and this is behind it.
pub record IsNumberWithin (more : ℕ) (bytes : List ℕ) (number : ℕ) (rest : List ℕ) : Type 0 where
  pub formed : IsNumber number
  pub few : number ≤ most_within more
  pub spelled : bytes ≡ bytes_within more number ++ rest

-- bytes begin with no number of at most so many bytes behind the first
abbrev pub HasNoNumberWithin : ℕ → List ℕ → Type 0
HasNoNumberWithin more bytes = (number : ℕ) (rest : List ℕ) → IsNumberWithin more bytes number rest → ⊥

-- bytes begin with a number, and this is behind it
abbrev pub IsNumberIn : List ℕ → ℕ → List ℕ → Type 0
IsNumberIn bytes number rest = IsNumberWithin 4 bytes number rest

-- bytes begin with no number
abbrev pub HasNoNumberIn : List ℕ → Type 0
HasNoNumberIn bytes = HasNoNumberWithin 4 bytes

-- Bytes begin with a literal, and this is behind it.
pub record IsLiteralIn (bytes : List ℕ) (literal : Literal) (rest : List ℕ) : Type 0 where
  pub formed : IsShortLiteral literal
  pub spelled : bytes ≡ literal_bytes literal ++ rest

-- bytes begin with no literal
abbrev pub HasNoLiteralIn : List ℕ → Type 0
HasNoLiteralIn bytes = (literal : Literal) (rest : List ℕ) → IsLiteralIn bytes literal rest → ⊥

-- ---- lists at the front of bytes

-- Bytes begin with this list of so many items, each written so, and this is behind them.
pub record AreIn {X : Type 0} (Is : X → Type 0) (written : X → List ℕ) (count : ℕ) (bytes : List ℕ) (items : List X) (rest : List ℕ) : Type 0 where
  pub counted : length items ≡ count
  pub formed : AllByRecursion Is items
  pub spelled : bytes ≡ flat_map written items ++ rest

-- bytes begin with this list of so many numbers, and this is behind them
abbrev pub AreNumbersIn : ℕ → (bytes numbers rest : List ℕ) → Type 0
AreNumbersIn count bytes numbers rest = AreIn IsNumber number_bytes count bytes numbers rest

-- bytes do not begin with so many numbers
abbrev pub HasNoNumbersIn : ℕ → List ℕ → Type 0
HasNoNumbersIn count bytes = (numbers rest : List ℕ) → AreNumbersIn count bytes numbers rest → ⊥

-- bytes begin with this list of so many literals, and this is behind them
abbrev pub AreLiteralsIn : ℕ → List ℕ → List Literal → List ℕ → Type 0
AreLiteralsIn count bytes literals rest = AreIn IsShortLiteral literal_bytes count bytes literals rest

-- bytes do not begin with so many literals
abbrev pub HasNoLiteralsIn : ℕ → List ℕ → Type 0
HasNoLiteralsIn count bytes = (literals : List Literal) (rest : List ℕ) → AreLiteralsIn count bytes literals rest → ⊥

-- ---- entries at the front of bytes

-- bytes begin with no heading
abbrev pub HasNoHeading : List ℕ → Type 0
HasNoHeading bytes = (conditions : Bool) (horizon : ℕ) (rest : List ℕ) → BeginsWith bytes (lines.Section conditions horizon) rest → ⊥

-- bytes begin with no end of a section
abbrev pub HasNoEnd : List ℕ → Type 0
HasNoEnd bytes = (word : EndWord) (rest : List ℕ) → BeginsWith bytes (lines.End word) rest → ⊥

-- no end word is this byte
abbrev pub IsNoWord : ℕ → Type 0
IsNoWord byte = (word : EndWord) → end_word_bytes word ≡ byte ∷ [] → ⊥
