-- The sections of a log, as their holder sees them.
use Rattle.std.specs.Prelude.{◌≡◌, ℕ, ◌+◌, ◌<◌, ◌≤◌, List, ◌∷◌, ◌++◌, Option, MatchOption, length, option_map}
use Rattle.std.specs.Borrow.{Bor}
use Rattle.std.specs.List.{AllByRecursion}
use Rattle.cc_defs.specs.declared.log.Cause.{Cause}
use Rattle.cc_defs.specs.declared.log.Cause.TheVariants as causes
use Rattle.cc_defs.specs.declared.log.LogLine.{LogLine}
use Rattle.cc_defs.specs.declared.log.LogLine.TheVariants as lines
use Rattle.cc_defs.specs.declared.log.Version.{Version}
use Rattle.cc_defs.specs.declared.log.Version.TheVariants.{First}
use Rattle.cc_defs.specs.Limits.{most_log_bytes}
use Rattle.cc_defs.specs.LogBytes.{IsSpelled}
use Rattle.cc_defs.specs.Logs.{SectionText, IsNoHeading}
use Rattle.cc_defs.specs.Sections.{HasNoForm}
use Rattle.cc_check.specs.declared.fault.CheckFault.{CheckFault}
use Rattle.cc_check.specs.declared.fault.CheckFault.TheVariants as faults
use Rattle.cc_check.specs.declared.line.Heading.{Heading}
use Rattle.cc_check.specs.declared.sections.Sections.TheInside.{Inside as AllInside}
use Rattle.cc_check.specs.SectionTexts.{HeadingAhead, SectionsAhead, AreAhead}
use Rattle.cc_check.specs.Splits.{Misread, Parts, IsSplit, IsSplitBehind}
use Rattle.cc_check.specs.Texts.{AreTexts, IsFirstText}

abbrev pub next_view : Option (Heading × Bor (List ℕ)) → Option HeadingAhead
next_view next = option_map (λ next. record { conditions = next.0.conditions; horizon = next.0.horizon; behind = next.1.now }) next

abbrev pub ahead_view : AllInside → SectionsAhead
ahead_view sections = record { version = sections.version; line = sections.line; next = next_view sections.next }

-- no more bytes are ahead than lines may stand behind this one
abbrev pub IsFewAhead : ℕ → Option (Heading × Bor (List ℕ)) → Type 0
IsFewAhead line next =
    MatchOption next (Unit {0}) (λ next. (length next.1.now ≤ most_log_bytes) × (line + length next.1.now ≤ most_log_bytes + 1))

abbrev pub HasFewAhead : AllInside → Type 0
HasFewAhead sections = IsFewAhead sections.line sections.next

-- what is ahead is sections, and not too long
abbrev pub AreAheadInside : AllInside → Type 0
AreAheadInside sections = HasFewAhead sections × ((all : List SectionText) × AreAhead (ahead_view sections) all)

-- ---- what the bytes of a log are read as

-- what is ahead is the sections of a log
abbrev pub AreSectionsOf : List ℕ → SectionsAhead → Type 0
AreSectionsOf bytes sections = (all : List SectionText) × AreAhead sections all × IsSplit bytes (Parts all)

-- why bytes are not split: they are misread, or memory was wanting
abbrev pub IsRefusal : List ℕ → CheckFault → Type 0
IsRefusal bytes (faults.Refused line cause) = IsSplit bytes (Misread line cause)
IsRefusal bytes faults.OutOfMemory = Unit {0}

-- the same of the bytes behind a header
abbrev pub AreSectionsBehind : Version → List ℕ → SectionsAhead → Type 0
AreSectionsBehind version body sections =
    (texts : List (List ℕ)) × AreTexts version body texts
    × ((all : List SectionText) × AreAhead sections all × IsSplitBehind version texts (Parts all))

-- why the bytes behind a header are not split
abbrev pub IsRefusalBehind : Version → List ℕ → CheckFault → Type 0
IsRefusalBehind version body (faults.Refused line cause) =
    (texts : List (List ℕ)) × AreTexts version body texts × IsSplitBehind version texts (Misread line cause)
IsRefusalBehind version body faults.OutOfMemory = Unit {0}

-- ---- the lines of a section up to the next heading

-- A text stands at the front of bytes, and this is behind it; it is this heading, or none.
pub record IsCut (version : Version) (bytes : List ℕ) (heading : Option Heading) (rest : List ℕ) : Type 0 where
  pub text : List ℕ
  pub first : IsFirstText version bytes text rest
  pub read : MatchOption heading (IsNoHeading version text) (λ heading. IsSpelled version text (lines.Section heading.conditions heading.horizon))

-- what stands behind the texts of a section: a heading and more
abbrev pub IsNext : Version → List ℕ → List (List ℕ) → Heading × Bor (List ℕ) → Type 0
IsNext version all inside next =
    (text : List ℕ) × IsSpelled version text (lines.Section next.0.conditions next.0.horizon)
    × ((more : List (List ℕ)) → AreTexts version next.1.now more → AreTexts version all (inside ++ text ∷ more))

pub record IsInside (version : Version) (all inside : List ℕ) (count : ℕ) (next : Option (Heading × Bor (List ℕ))) : Type 0 where
  pub texts : List (List ℕ)
  pub are : AreTexts version inside texts
  pub none : AllByRecursion (IsNoHeading version) texts
  pub counted : count ≡ length texts
  pub few : length inside ≤ length all
  pub parted : MatchOption next (inside ≡ all) (IsNext version all texts)
  pub fewer : MatchOption next (count ≤ length all) (λ next. count + length next.1.now < length all)

-- what is wrong with a second line
abbrev pub IsSecondIn : Version → List ℕ → Cause → Type 0
IsSecondIn version text causes.Form = HasNoForm version text
IsSecondIn version text causes.Section = (line : LogLine) × IsSpelled version text line
IsSecondIn version text causes.Header = ⊥
IsSecondIn version text causes.Literal = ⊥
IsSecondIn version text causes.Number = ⊥
IsSecondIn version text causes.Pivot = ⊥
IsSecondIn version text causes.Clause = ⊥
IsSecondIn version text causes.Row = ⊥
IsSecondIn version text causes.NotRefuted = ⊥

abbrev pub IsSecond : List ℕ → Cause → Type 0
IsSecond text cause = IsSecondIn First text cause

-- bytes begin with a text that is so wrong as a second line
abbrev pub IsSecondAt : Version → List ℕ → Cause → Type 0
IsSecondAt version body cause = (text : List ℕ) × (rest : List ℕ) × IsFirstText version body text rest × IsSecondIn version text cause
