-- What a line that was read says, by its kind and by the literals and numbers that it has.
use Rattle.std.specs.Prelude.{◌≡◌, ℕ, List}
use Rattle.cc_check.specs.declared.line.Kind.{Kind}
use Rattle.cc_check.specs.declared.line.Kind.TheVariants as kinds
use Rattle.cc_defs.specs.declared.log.LogLine.{LogLine}
use Rattle.cc_defs.specs.declared.log.LogLine.TheVariants as lines
use Rattle.cc_defs.specs.declared.log.Version.{Version}
use Rattle.cc_defs.specs.Clauses.{IsOver, Literal}
use Rattle.cc_defs.specs.Limits.{most_variables}
use Rattle.cc_defs.specs.LogBytes.{line_meant}

-- it is no heading, and the literals of a derived line are over variables that a clause list may have
abbrev pub IsHoldable : List Literal → Kind → Type 0
IsHoldable literals kinds.Heading = ⊥
IsHoldable literals kinds.Derived = IsOver most_variables literals
IsHoldable literals kinds.Block = Unit {0}
IsHoldable literals (kinds.End word) = Unit {0}

-- the line, where its own clause has this number
abbrev pub IsHeld : Version → ℕ → List Literal → List ℕ → Kind → LogLine → Type 0
IsHeld version own literals numbers kinds.Heading line = ⊥
IsHeld version own literals numbers kinds.Derived line = line ≡ line_meant version own (lines.Derived literals numbers)
IsHeld version own literals numbers kinds.Block line = line ≡ lines.Block numbers
IsHeld version own literals numbers (kinds.End word) line = line ≡ lines.End word
