-- What makes a written log trustworthy.
use Rattle.std.specs.Prelude.{ℕ, ◌≡◌, ◌≤◌, List}
use Rattle.std.specs.List.{AllByRecursion}
use Rattle.cc_defs.specs.declared.log.LogLine.{LogLine}
use Rattle.cc_defs.specs.LogBytes.{BeginsWith, IsEntry, entry_bytes, line_behind}
use Rattle.cc_defs.specs.LogTexts.{IsFormed, IsLine, log_text}
use Rattle.cc_log.specs.Entries.{HasShortLists, NamesBefore}

-- no text is that of two lines
abbrev pub LinesAreUnique : Type 0
LinesAreUnique = (text : List ℕ) (one other : LogLine) → IsLine text one → IsLine text other → one ≡ other

-- bytes begin with one entry at most
abbrev pub OneEntry : Type 0
OneEntry = (bytes : List ℕ) (line other : LogLine) (rest others : List ℕ) → BeginsWith bytes line rest → BeginsWith bytes other others →
    (line ≡ other) × (rest ≡ others)

-- what is written of a line in version 2 is an entry, and it says that line
abbrev pub WrittenLinesAreEntries : Type 0
WrittenLinesAreEntries = (own : ℕ) (line : LogLine) → IsFormed line → HasShortLists line → own ≤ 999999999 → NamesBefore own line →
    IsEntry (entry_bytes (line_behind own line)) (line_behind own line) × (line_behind own (line_behind own line) ≡ line)

-- a log's text tells its lines
abbrev pub LogsTellTheirLines : Type 0
LogsTellTheirLines = (one other : List LogLine) → AllByRecursion IsFormed one → AllByRecursion IsFormed other → log_text one ≡ log_text other → one ≡ other
