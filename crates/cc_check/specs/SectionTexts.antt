-- A section of a log by its bytes, the texts that these stand for, and the sections that are ahead.
use Rattle.std.specs.Prelude.{◌≡◌, ℕ, suc, ◌+◌, ◌<◌, Bool, true, List, [], ◌∷◌, Option, Some, None, length, slice_get}
use Rattle.cc_defs.specs.declared.log.EndWord.{EndWord}
use Rattle.cc_defs.specs.declared.log.LogLine.TheVariants as lines
use Rattle.cc_defs.specs.declared.log.Version.{Version}
use Rattle.cc_defs.specs.LogBytes.{IsSpelled}
use Rattle.cc_defs.specs.Logs.{SectionText, AreSections}
use Rattle.cc_defs.specs.Sections.{Axioms, Finding, Right, IsFound}
use Rattle.cc_check.specs.declared.sections.Section.{Section}
use Rattle.cc_check.specs.Texts.{AreTexts}

-- it is this section, text by text
pub record IsTextOf (section : Section) (text : SectionText) : Type 0 where
  pub version : text.version ≡ section.version
  pub conditions : text.conditions ≡ section.conditions
  pub horizon : text.horizon ≡ section.horizon
  pub line : text.line ≡ section.line
  pub texts : AreTexts section.version section.bytes.now text.texts

-- What the lines of a section are found to be over axioms, where a row may be blocked or not: the same of all texts that it is.
abbrev pub IsFoundOf : (blocks : Bool) → Axioms → Section → Finding → Type 0
IsFoundOf blocks axioms section finding =
    (text : SectionText) → IsTextOf section text →
    IsFound (record { version = section.version; blocks = blocks }) axioms axioms.clauses 0 (section.line + 1) text.texts finding

-- each of its lines is right over axioms, where a row may be blocked, and the last one ends it
abbrev pub IsRightOf : Axioms → Section → Type 0
IsRightOf axioms section = (word : EndWord) × (blocks : ℕ) × (line : ℕ) × IsFoundOf true axioms section (Right word blocks line)

-- ---- the sections that are ahead

-- A heading that comes next, and the bytes behind its line.
pub record HeadingAhead : Type 0 where
  pub conditions : Bool
  pub horizon : ℕ
  pub behind : List ℕ

-- What a log has ahead at a heading: how its lines are written, the number of the heading's line, and the heading, if one comes.
pub record SectionsAhead : Type 0 where
  pub version : Version
  pub line : ℕ
  pub next : Option HeadingAhead

abbrev pub AreAheadFrom : Version → (line : ℕ) → Option HeadingAhead → List SectionText → Type 0
AreAheadFrom version line None all = all ≡ []
AreAheadFrom version line (Some next) all =
    (text : List ℕ) × (texts : List (List ℕ)) × IsSpelled version text (lines.Section next.conditions next.horizon)
    × AreTexts version next.behind texts × AreSections version line (text ∷ texts) all

-- they are the sections that are ahead
abbrev pub AreAhead : SectionsAhead → List SectionText → Type 0
AreAhead ahead all = AreAheadFrom ahead.version ahead.line ahead.next all

-- of these sections this is the first, if there is one, and the others are ahead
abbrev pub IsAheadBehind : List SectionText → Option Section → SectionsAhead → Type 0
IsAheadBehind all None ahead = all ≡ []
IsAheadBehind all (Some section) ahead =
    (text : SectionText) × (others : List SectionText) × (all ≡ text ∷ others) × IsTextOf section text × AreAhead ahead others

-- more sections than so many are ahead
abbrev pub HasAhead : SectionsAhead → ℕ → Type 0
HasAhead ahead place = (all : List SectionText) → AreAhead ahead all → place < length all

-- of these sections this is the one at a place, from 0
abbrev pub IsAheadAt : List SectionText → ℕ → Section → Type 0
IsAheadAt all place section = (text : SectionText) × (slice_get all place ≡ Some text) × IsTextOf section text

abbrev pub length_from : Option HeadingAhead → ℕ
length_from None = 0
length_from (Some next) = suc (length next.behind)

-- how long what is ahead is: a heading is counted as one byte
abbrev pub length_ahead : SectionsAhead → ℕ
length_ahead ahead = length_from ahead.next
