-- The lines of a log that can be said in both versions.
use Rattle.std.specs.Prelude.{◌≡◌, ◌+◌, ◌≤◌, ℕ, Bool, List, [], ◌∷◌, length, Option, None}
use Rattle.cc_check.specs.declared.sections.Section.{Section}
use Rattle.cc_defs.specs.declared.lists.Key.{Key}
use Rattle.cc_defs.specs.declared.log.LogLine.{LogLine}
use Rattle.cc_defs.specs.declared.log.LogLine.TheVariants as lines
use Rattle.cc_defs.specs.Clauses.{IsOver}
use Rattle.cc_defs.specs.Description.{Description}
use Rattle.cc_defs.specs.Limits.{most_variables}
use Rattle.cc_defs.specs.LogBytes.{HasNumbers, line_behind}
use Rattle.cc_defs.specs.LogTexts.{IsFormed}
use Rattle.cc_defs.specs.LogVersions.{NamesEarlier, counts_in, lines_bytes, own_behind}
use Rattle.cc_defs.specs.Resolved.{Query}
use Rattle.cc_defs.specs.Runs.{first_horizon, last_horizon}
use Rattle.cc_defs.specs.Sections.{Axioms}
use Rattle.cc_judge.specs.Judging.{limit_of}
use Rattle.cc_lists.specs.Subjects.{subject_of}

-- its clause is over variables that a clause list may have
abbrev pub IsOverMost : LogLine → Type 0
IsOverMost (lines.Section conditions horizon) = Unit {0}
IsOverMost (lines.Derived clause chain) = IsOver most_variables clause
IsOverMost (lines.Block row) = Unit {0}
IsOverMost (lines.End word) = Unit {0}

-- A line whose own clause has this number, which both versions can say.
pub record IsSayableAt (own : ℕ) (line : LogLine) : Type 0 where
  pub own_short : own ≤ 999999999
  pub formed : IsFormed line
  pub numbers : HasNumbers line
  pub entry : HasNumbers (line_behind own line)
  pub earlier : NamesEarlier own line
  pub over : IsOverMost line

-- a heading is that of a section of a horizon that the log is of, and its axioms pass no limit
abbrev pub OpensWithin : Description → Query → Option Key → LogLine → Type 0
OpensWithin d q key (lines.Section conditions horizon) =
    (first_horizon q key ≤ horizon) × (horizon ≤ last_horizon q key) × (limit_of d q key conditions horizon ≡ None)
OpensWithin d q key (lines.Derived clause chain) = Unit {0}
OpensWithin d q key (lines.Block row) = Unit {0}
OpensWithin d q key (lines.End word) = Unit {0}

abbrev pub own_after : Description → Query → Option Key → ℕ → LogLine → ℕ
own_after d q key own line = own_behind (counts_in (subject_of d q key)) own line

-- each of the lines, and the axioms of each section that has its heading among them pass no limit
abbrev pub AreSaid : Description → Query → Option Key → ℕ → List LogLine → Type 0
AreSaid d q key own [] = Unit {0}
AreSaid d q key own (line ∷ others) =
    IsSayableAt own line × OpensWithin d q key line × AreSaid d q key (own_after d q key own line) others

-- ---- the lines of a section

-- a heading is one that may stand there
abbrev pub IsHeadedBy : (May : Bool → ℕ → Type 0) → LogLine → Type 0
IsHeadedBy May (lines.Section conditions horizon) = May conditions horizon
IsHeadedBy May (lines.Derived clause chain) = Unit {0}
IsHeadedBy May (lines.Block row) = Unit {0}
IsHeadedBy May (lines.End word) = Unit {0}

-- each of the lines, where these headings may stand among them, with so many axioms behind each
abbrev pub AreSayableBy : (May : Bool → ℕ → Type 0) (counts : Bool → ℕ → ℕ) → ℕ → List LogLine → Type 0
AreSayableBy May counts own [] = Unit {0}
AreSayableBy May counts own (line ∷ others) = IsSayableAt own line × IsHeadedBy May line × AreSayableBy May counts (own_behind counts own line) others

-- no heading may
abbrev pub MayNot : Bool → ℕ → Type 0
MayNot conditions horizon = ⊥

abbrev pub no_axioms : Bool → ℕ → ℕ
no_axioms conditions horizon = 0

-- The lines of a section over axioms: its heading, and behind it those of which its bytes are, as its version writes them. Both versions
-- can say each of these, and none of them is a heading.
pub record AreLinesOf (axioms : Axioms) (section : Section) (all : List LogLine) : Type 0 where
  pub inside : List LogLine
  pub headed : all ≡ lines.Section section.conditions section.horizon ∷ inside
  pub written : section.bytes.now ≡ lines_bytes section.version no_axioms (length axioms.clauses + 1) inside
  pub sayable : AreSayableBy MayNot no_axioms (length axioms.clauses + 1) inside
