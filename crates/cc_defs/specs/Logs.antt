-- Logs: which are accepted, and which line of another is the first that is wrong.
use Rattle.std.specs.Prelude.{◌≡◌, ◌≢◌, ℕ, ◌+◌, ◌-◌, ◌≤◌, ◌⊎◌, Bool, true, false, not, ◌&&◌, List, [], ◌∷◌, ◌++◌, length}
use Rattle.std.specs.List.{AllByRecursion}
use Rattle.cc_defs.specs.declared.log.Cause.{Cause}
use Rattle.cc_defs.specs.declared.log.Cause.TheVariants as causes
use Rattle.cc_defs.specs.declared.log.EndWord.{EndWord}
use Rattle.cc_defs.specs.declared.log.EndWord.TheVariants as words
use Rattle.cc_defs.specs.declared.log.LogLine.{LogLine}
use Rattle.cc_defs.specs.declared.log.LogLine.TheVariants as lines
use Rattle.cc_defs.specs.declared.log.LogVerdict.{LogVerdict}
use Rattle.cc_defs.specs.declared.log.LogVerdict.TheVariants as verdicts
use Rattle.cc_defs.specs.declared.log.Version.{Version}
use Rattle.cc_defs.specs.declared.log.Version.TheVariants.{First, Second}
use Rattle.cc_defs.specs.LogBytes.{IsSpelled, AreEntries, binary_header}
use Rattle.cc_defs.specs.LogTexts.{header, lines_in}
use Rattle.cc_defs.specs.Sections.{Axioms, Finding, Right, Trailed, Wrong, HasNoForm, IsFound}

-- ---- a log's sections: each a heading, with the number of its line, and the lines up to the next heading, as their version writes them

pub record SectionText : Type 0 where
  pub version : Version
  pub conditions : Bool
  pub horizon : ℕ
  pub line : ℕ
  pub texts : List (List ℕ)

abbrev pub IsNoHeading : Version → List ℕ → Type 0
IsNoHeading version text = (conditions : Bool) (horizon : ℕ) → IsSpelled version text (lines.Section conditions horizon) → ⊥

-- texts from this line on are those of these sections
abbrev pub AreSections : Version → ℕ → List (List ℕ) → List SectionText → Type 0
AreSections version line texts [] = texts ≡ []
AreSections version line texts (first ∷ sections) =
    (heading : List ℕ) × (rest : List (List ℕ)) × (texts ≡ heading ∷ first.texts ++ rest) × (first.line ≡ line)
    × IsSpelled version heading (lines.Section first.conditions first.horizon) × AllByRecursion (IsNoHeading version) first.texts
    × AreSections version (line + 1 + length first.texts) rest sections
    × (first.version ≡ version)

-- ---- which sections a log is to have

-- What it is the log of: a query with or without a claim, the horizons that are tried, and the axioms of each section: with
-- `true` those of the search for a path that meets the conditions of a query with a claim, with `false` the others.
pub record Subject : Type 0 where
  pub claim : Bool
  pub first : ℕ
  pub last : ℕ
  pub axioms : Bool → ℕ → Axioms

-- how far a log is right: `middle` where the conditions of a horizon are met and its claim is asked next
pub record Standing : Type 0 where
  pub middle : Bool
  pub horizon : ℕ
  pub blocked : ℕ
  pub line : ℕ

-- the heading that comes next
pub record IsNext (subject : Subject) (standing : Standing) (section : SectionText) : Type 0 where
  pub conditions : section.conditions ≡ (subject.claim && not standing.middle)
  pub horizon : section.horizon ≡ standing.horizon
  pub within : standing.horizon ≤ subject.last

abbrev pub next_horizon : Standing → (blocks line : ℕ) → Standing
next_horizon standing blocks line = record { middle = false; horizon = standing.horizon + 1; blocked = standing.blocked + blocks; line = line + 1 }

abbrev pub into_middle : Standing → (blocks line : ℕ) → Standing
into_middle standing blocks line = record { middle = true; horizon = standing.horizon; blocked = standing.blocked + blocks; line = line + 1 }

-- what follows a right section, by its heading and its end word; `Goes` says what is found behind it
abbrev pub IsContinued : (Standing → Type 0) → Standing → (conditions : Bool) → EndWord → (blocks line : ℕ) → LogVerdict → Type 0
IsContinued Goes standing conditions words.Empty blocks line verdict = Goes (next_horizon standing blocks line)
IsContinued Goes standing true words.Found blocks line verdict = Goes (into_middle standing blocks line)
IsContinued Goes standing false words.Found blocks line verdict = verdict ≡ verdicts.Refused line causes.NotRefuted
IsContinued Goes standing conditions words.Spent blocks line verdict = verdict ≡ verdicts.Refused line causes.NotRefuted

-- An end word behind which no section may follow is itself the first wrong line, whatever stands behind it.
abbrev pub IsTrailed : (conditions : Bool) → EndWord → ℕ → Cause → LogVerdict → Type 0
IsTrailed conditions words.Empty line cause verdict = verdict ≡ verdicts.Refused (line + 1) cause
IsTrailed true words.Found line cause verdict = verdict ≡ verdicts.Refused (line + 1) cause
IsTrailed false words.Found line _ verdict = verdict ≡ verdicts.Refused line causes.NotRefuted
IsTrailed conditions words.Spent line _ verdict = verdict ≡ verdicts.Refused line causes.NotRefuted

abbrev pub IsFollowed : (Standing → Type 0) → Standing → Bool → Finding → LogVerdict → Type 0
IsFollowed Goes standing conditions (Wrong line cause) verdict = verdict ≡ verdicts.Refused line cause
IsFollowed Goes standing conditions (Trailed word line cause) verdict = IsTrailed conditions word line cause verdict
IsFollowed Goes standing conditions (Right word blocks line) verdict = IsContinued Goes standing conditions word blocks line verdict

-- a log may end behind a horizon, and not before the first or within one
abbrev pub IsClosedBy : Subject → Standing → LogVerdict → Type 0
IsClosedBy subject standing verdict =
    ((standing.middle ≡ false) × (standing.horizon ≢ subject.first) × (verdict ≡ verdicts.Accepted subject.first (standing.horizon - 1) standing.blocked))
    ⊎ (((standing.middle ≡ true) ⊎ (standing.horizon ≡ subject.first)) × (verdict ≡ verdicts.Refused standing.line causes.Section))

abbrev pub AreJudged : Subject → Standing → List SectionText → LogVerdict → Type 0
AreJudged subject standing [] verdict = IsClosedBy subject standing verdict
AreJudged subject standing (section ∷ sections) verdict =
    ((IsNext subject standing section → ⊥) × (verdict ≡ verdicts.Refused section.line causes.Section))
    ⊎ (IsNext subject standing section × ((finding : Finding)
    × IsFound (record { version = section.version; blocks = true }) (subject.axioms section.conditions section.horizon) ((subject.axioms section.conditions section.horizon).clauses) 0 (section.line + 1) section.texts finding
    × IsFollowed (λ next. AreJudged subject next sections verdict) standing section.conditions finding verdict))

abbrev pub at_first : Subject → Standing
at_first subject = record { middle = false; horizon = subject.first; blocked = 0; line = 2 }

-- ---- the verdict of a log's bytes

-- behind the header stands a heading, or the second line is wrong
abbrev pub IsVerdictBehind : Version → Subject → List (List ℕ) → LogVerdict → Type 0
IsVerdictBehind version subject [] verdict = verdict ≡ verdicts.Refused 2 causes.Section
IsVerdictBehind version subject (text ∷ texts) verdict =
    (HasNoForm version text × (verdict ≡ verdicts.Refused 2 causes.Form))
    ⊎ (IsNoHeading version text × ((line : LogLine) × IsSpelled version text line) × (verdict ≡ verdicts.Refused 2 causes.Section))
    ⊎ ((sections : List SectionText) × AreSections version 2 (text ∷ texts) sections × AreJudged subject (at_first subject) sections verdict)

abbrev pub IsVerdictOf : Subject → List (List ℕ) → LogVerdict → Type 0
IsVerdictOf subject [] verdict = verdict ≡ verdicts.Refused 1 causes.Header
IsVerdictOf subject (text ∷ texts) verdict =
    ((text ≢ header) × (verdict ≡ verdicts.Refused 1 causes.Header)) ⊎ ((text ≡ header) × IsVerdictBehind First subject texts verdict)

-- bytes do not begin with the header of version 2: they are read as version 1
abbrev pub IsNotBinary : List ℕ → Type 0
IsNotBinary bytes = (behind : List ℕ) → bytes ≢ binary_header ++ behind

-- what a checker says of a log, by the version that its first eight bytes tell
abbrev pub IsVerdict : Subject → List ℕ → LogVerdict → Type 0
IsVerdict subject bytes verdict =
    ((behind : List ℕ) × (bytes ≡ binary_header ++ behind)
    × ((texts : List (List ℕ)) × AreEntries behind texts × IsVerdictBehind Second subject texts verdict))
    ⊎ (IsNotBinary bytes × IsVerdictOf subject (lines_in bytes) verdict)

-- it accepts the log
abbrev pub IsAccepted : Subject → List ℕ → Type 0
IsAccepted subject bytes = (horizon : ℕ) × (blocked : ℕ) × IsVerdict subject bytes (verdicts.Accepted subject.first horizon blocked)
