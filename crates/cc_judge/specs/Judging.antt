-- How far a log is judged: up to its verdict, or up to a section whose axioms pass a limit.
use Rattle.std.specs.Prelude.{◌≡◌, ℕ, ◌+◌, ◌≤◌, ◌⊎◌, Bool, true, false, not, List, [], ◌∷◌, ◌++◌, Option, Some, None, option_map, Contains}
use Rattle.cc_defs.specs.declared.lists.Key.{Key}
use Rattle.cc_check.specs.Splits.{Misread, IsSplit}
use Rattle.cc_defs.specs.declared.log.Cause.{Cause}
use Rattle.cc_defs.specs.declared.log.Cause.TheVariants as causes
use Rattle.cc_defs.specs.declared.log.EndWord.{EndWord}
use Rattle.cc_defs.specs.declared.log.EndWord.TheVariants as words
use Rattle.cc_defs.specs.declared.log.LogLine.{LogLine}
use Rattle.cc_defs.specs.declared.log.LogLine.TheVariants as lines
use Rattle.cc_defs.specs.declared.log.LogVerdict.{LogVerdict}
use Rattle.cc_defs.specs.declared.log.LogVerdict.TheVariants as verdicts
use Rattle.cc_defs.specs.declared.refusal.Fault.{Fault}
use Rattle.cc_defs.specs.declared.refusal.Fault.TheVariants as faults
use Rattle.cc_defs.specs.declared.refusal.Refusal.{Refusal}
use Rattle.cc_defs.specs.Description.{Description}
use Rattle.cc_defs.specs.Histories.{IsHistory}
use Rattle.cc_defs.specs.declared.log.Version.TheVariants.{First, Second}
use Rattle.cc_defs.specs.LogBytes.{AreEntries, IsSpelled, binary_header}
use Rattle.cc_defs.specs.LogTexts.{header, lines_in}
use Rattle.cc_defs.specs.Logs.{SectionText, Standing, Subject, AreSections, IsClosedBy, IsFollowed, IsNext, IsNotBinary, at_first, into_middle, next_horizon}
use Rattle.cc_defs.specs.Resolved.{Query}
use Rattle.cc_defs.specs.Sections.{Finding, Right, Trailed, Wrong, IsFound}
use Rattle.cc_lists.specs.Horizons.{refusal_at}
use Rattle.cc_lists.specs.Subjects.{AreGoodAxioms, subject_of}

-- the limit that the axioms of a section pass first: those of the search for a path of the conditions leave the claim out
abbrev pub limit_of : Description → Query → Option Key → (conditions : Bool) → ℕ → Option Refusal
limit_of d q key conditions horizon = refusal_at d q horizon (not conditions) key

-- the axioms of a section are clauses over their variables
abbrev pub HasGoodAxioms : Description → Query → Option Key → (conditions : Bool) → ℕ → Type 0
HasGoodAxioms d q key conditions horizon = AreGoodAxioms ((subject_of d q key).axioms conditions horizon)

-- behind a section that is right, as far as another may follow; `Goes` says what comes there
abbrev pub GoesOnBehind : (Standing → Type 0) → Standing → (conditions : Bool) → EndWord → (blocks line : ℕ) → Type 0
GoesOnBehind Goes standing conditions words.Empty blocks line = Goes (next_horizon standing blocks line)
GoesOnBehind Goes standing true words.Found blocks line = Goes (into_middle standing blocks line)
GoesOnBehind Goes standing false words.Found blocks line = ⊥
GoesOnBehind Goes standing conditions words.Spent blocks line = ⊥

abbrev pub GoesOn : (Standing → Type 0) → Standing → (conditions : Bool) → Finding → Type 0
GoesOn Goes standing conditions (Wrong line reason) = ⊥
GoesOn Goes standing conditions (Trailed word line reason) = ⊥
GoesOn Goes standing conditions (Right word blocks line) = GoesOnBehind Goes standing conditions word blocks line

-- A section stands in its place, and its axioms pass this limit; each section before it is right, and its axioms pass none.
abbrev pub ReachesLimit : Subject → (Bool → ℕ → Option Refusal) → Standing → List SectionText → Refusal → Type 0
ReachesLimit subject limit standing [] refusal = ⊥
ReachesLimit subject limit standing (section ∷ sections) refusal =
    IsNext subject standing section
    × ((limit section.conditions section.horizon ≡ Some refusal)
    ⊎ ((limit section.conditions section.horizon ≡ None) × ((finding : Finding)
    × IsFound (record { version = section.version; blocks = true }) (subject.axioms section.conditions section.horizon) ((subject.axioms section.conditions section.horizon).clauses) 0 (section.line + 1) section.texts finding
    × GoesOn (λ next. ReachesLimit subject limit next sections refusal) standing section.conditions finding)))

-- The verdict of sections, where the axioms of each section that is judged for it pass no limit, and are so.
abbrev pub AreJudgedWithin : Subject → (limit : Bool → ℕ → Option Refusal) → (Are : Bool → ℕ → Type 0) → Standing → List SectionText → LogVerdict → Type 0
AreJudgedWithin subject limit Are standing [] verdict = IsClosedBy subject standing verdict
AreJudgedWithin subject limit Are standing (section ∷ sections) verdict =
    ((IsNext subject standing section → ⊥) × (verdict ≡ verdicts.Refused section.line causes.Section))
    ⊎ (IsNext subject standing section × (limit section.conditions section.horizon ≡ None) × Are section.conditions section.horizon
    × ((finding : Finding)
    × IsFound (record { version = section.version; blocks = true }) (subject.axioms section.conditions section.horizon) ((subject.axioms section.conditions section.horizon).clauses) 0 (section.line + 1) section.texts finding
    × IsFollowed (λ next. AreJudgedWithin subject limit Are next sections verdict) standing section.conditions finding verdict))

-- the sections of a log, in the version that its first eight bytes tell
abbrev pub HasSections : List ℕ → List SectionText → Type 0
HasSections bytes sections =
    ((behind : List ℕ) × (bytes ≡ binary_header ++ behind)
    × ((texts : List (List ℕ)) × AreEntries behind texts × AreSections Second 2 texts sections))
    ⊎ (IsNotBinary bytes × ((texts : List (List ℕ)) × (lines_in bytes ≡ header ∷ texts) × AreSections First 2 texts sections))

-- a limit is reached in a log, or memory was wanting
abbrev pub IsJudgeFault : Description → Query → Option Key → List ℕ → Fault → Type 0
IsJudgeFault d q key bytes (faults.Refused refusal) =
    (sections : List SectionText) × HasSections bytes sections
    × ReachesLimit (subject_of d q key) (limit_of d q key) (at_first (subject_of d q key)) sections refusal
IsJudgeFault d q key bytes faults.OutOfMemory = Unit {0}

-- The log is misread before any section is looked at, or no section that is judged for its verdict passes a limit, and each has
-- good axioms.
abbrev pub IsVerdictWithin : Description → Query → Option Key → List ℕ → LogVerdict → Type 0
IsVerdictWithin d q key bytes verdict =
    ((line : ℕ) × (reason : Cause) × IsSplit bytes (Misread line reason) × (verdict ≡ verdicts.Refused line reason))
    ⊎ ((sections : List SectionText) × HasSections bytes sections
    × AreJudgedWithin (subject_of d q key) (limit_of d q key) (HasGoodAxioms d q key) (at_first (subject_of d q key)) sections verdict)

-- ---- what an accepted log is worth

-- one of the texts of a section is that of a line, as the section's version writes it
abbrev pub HasLine : SectionText → LogLine → Type 0
HasLine section line = (text : List ℕ) × Contains section.texts text × IsSpelled section.version text line

-- the log has a line that blocks the row, in a section of the horizon
pub record IsBlockedIn (bytes : List ℕ) (horizon : ℕ) (row : List ℕ) : Type 0 where
  pub sections : List SectionText
  pub are : HasSections bytes sections
  pub section : SectionText
  pub there : Contains sections section
  pub horizon_is : section.horizon ≡ horizon
  pub blocked : HasLine section (lines.Block row)

-- Where it is accepted, each history of its horizons is blocked in it.
abbrev pub BlocksHistories : Description → Query → Option Key → List ℕ → LogVerdict → Type 0
BlocksHistories d q key bytes (verdicts.Accepted first last blocked) =
    (horizon : ℕ) (row : List ℕ) → first ≤ horizon → horizon ≤ last → IsHistory d q horizon (option_map (λ low. low.row) key) row → IsBlockedIn bytes horizon row
BlocksHistories d q key bytes (verdicts.Refused line reason) = Unit {0}
