-- The log of lines in each version, and which logs are one log in two versions.
use Rattle.std.specs.Prelude.{◌≡◌, ℕ, ◌+◌, ◌<◌, Bool, List, [], ◌∷◌, ◌++◌, length}
use Rattle.cc_defs.specs.declared.log.LogLine.{LogLine}
use Rattle.cc_defs.specs.declared.log.LogLine.TheVariants as lines
use Rattle.cc_defs.specs.declared.log.Version.{Version}
use Rattle.cc_defs.specs.declared.log.Version.TheVariants.{First, Second}
use Rattle.cc_defs.specs.LogBytes.{HasNumbers, binary_header, entry_bytes, line_behind}
use Rattle.cc_defs.specs.LogTexts.{IsFormed, header, line_text}
use Rattle.cc_defs.specs.Logs.{Subject}

-- ---- the bytes of lines

abbrev pub header_of : Version → List ℕ
header_of First = header
header_of Second = binary_header

-- A line whose own clause has this number; a line that adds no clause has no use of it.
abbrev pub line_bytes : Version → ℕ → LogLine → List ℕ
line_bytes First own line = line_text line
line_bytes Second own line = entry_bytes (line_behind own line)

-- the number of the next clause behind a line: a heading has the axioms of its section behind it, whose number `counts` tells
abbrev pub own_behind : (counts : Bool → ℕ → ℕ) → ℕ → LogLine → ℕ
own_behind counts own (lines.Section conditions horizon) = counts conditions horizon + 1
own_behind counts own (lines.Derived clause chain) = own + 1
own_behind counts own (lines.Block row) = own + 1
own_behind counts own (lines.End word) = own

abbrev pub lines_bytes : Version → (counts : Bool → ℕ → ℕ) → ℕ → List LogLine → List ℕ
lines_bytes version counts own [] = []
lines_bytes version counts own (line ∷ others) = line_bytes version own line ++ lines_bytes version counts (own_behind counts own line) others

-- the log of lines
abbrev pub log_in : Version → (counts : Bool → ℕ → ℕ) → List LogLine → List ℕ
log_in version counts all = header_of version ++ lines_bytes version counts 1 all

-- how many axioms a section has, by what the log is of
abbrev pub counts_in : Subject → Bool → ℕ → ℕ
counts_in subject conditions horizon = length ((subject.axioms conditions horizon).clauses)

-- ---- one log in two versions

-- the numbers of clauses in a chain, the first number and then every second one, are of earlier clauses
abbrev pub AreEarlier : ℕ → List ℕ → Type 0
AreEarlier own [] = Unit {0}
AreEarlier own (number ∷ []) = (0 < number) × (number < own)
AreEarlier own (number ∷ pivot ∷ chain) = (0 < number) × (number < own) × AreEarlier own chain

-- a line that either version can say
abbrev pub NamesEarlier : ℕ → LogLine → Type 0
NamesEarlier own (lines.Section conditions horizon) = Unit {0}
NamesEarlier own (lines.Derived clause chain) = AreEarlier own chain
NamesEarlier own (lines.Block row) = Unit {0}
NamesEarlier own (lines.End word) = Unit {0}

abbrev pub AreSayable : (counts : Bool → ℕ → ℕ) → ℕ → List LogLine → Type 0
AreSayable counts own [] = Unit {0}
AreSayable counts own (line ∷ others) =
    IsFormed line × HasNumbers line × NamesEarlier own line × AreSayable counts (own_behind counts own line) others

abbrev pub other_version : Version → Version
other_version First = Second
other_version Second = First

-- Two logs have the same lines, the one in this version, the other in the other one.
pub record AreVersions (counts : Bool → ℕ → ℕ) (version : Version) (bytes other : List ℕ) : Type 0 where
  pub said : List LogLine
  pub sayable : AreSayable counts 1 said
  pub here : bytes ≡ log_in version counts said
  pub there : other ≡ log_in (other_version version) counts said
