-- How the bytes of a log are split into sections, in the version that their first eight bytes tell.
use Rattle.std.specs.Prelude.{◌≡◌, ◌≢◌, ℕ, ◌⊎◌, List, [], ◌∷◌, ◌++◌}
use Rattle.cc_defs.specs.declared.log.Cause.{Cause}
use Rattle.cc_defs.specs.declared.log.Cause.TheVariants as causes
use Rattle.cc_defs.specs.declared.log.LogLine.{LogLine}
use Rattle.cc_defs.specs.declared.log.Version.{Version}
use Rattle.cc_defs.specs.declared.log.Version.TheVariants.{First, Second}
use Rattle.cc_defs.specs.LogBytes.{AreEntries, IsSpelled, binary_header}
use Rattle.cc_defs.specs.LogTexts.{header, lines_in}
use Rattle.cc_defs.specs.Logs.{SectionText, AreSections, IsNoHeading, IsNotBinary}
use Rattle.cc_defs.specs.Sections.{HasNoForm}

-- what the split of a log gives: its sections, or a line that is wrong before any section is looked at
pub data Split : Type 0 where
  Parts : List SectionText → Split
  Misread : (line : ℕ) → Cause → Split

-- behind the header stands a heading, or the second line is wrong
abbrev pub IsSplitBehind : Version → List (List ℕ) → Split → Type 0
IsSplitBehind version [] split = split ≡ Misread 2 causes.Section
IsSplitBehind version (text ∷ texts) split =
    (HasNoForm version text × (split ≡ Misread 2 causes.Form))
    ⊎ (IsNoHeading version text × ((line : LogLine) × IsSpelled version text line) × (split ≡ Misread 2 causes.Section))
    ⊎ ((sections : List SectionText) × AreSections version 2 (text ∷ texts) sections × (split ≡ Parts sections))

abbrev pub IsSplitOf : List (List ℕ) → Split → Type 0
IsSplitOf [] split = split ≡ Misread 1 causes.Header
IsSplitOf (text ∷ texts) split =
    ((text ≢ header) × (split ≡ Misread 1 causes.Header)) ⊎ ((text ≡ header) × IsSplitBehind First texts split)

-- the bytes of a log are split so
abbrev pub IsSplit : List ℕ → Split → Type 0
IsSplit bytes split =
    ((behind : List ℕ) × (bytes ≡ binary_header ++ behind)
    × ((texts : List (List ℕ)) × AreEntries behind texts × IsSplitBehind Second texts split))
    ⊎ (IsNotBinary bytes × IsSplitOf (lines_in bytes) split)
