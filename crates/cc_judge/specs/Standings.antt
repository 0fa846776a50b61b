-- How far a log is judged, and what follows a section.
use Rattle.std.specs.Prelude.{◌≡◌, ◌≢◌, ℕ, ◌+◌, ◌-◌, ◌<◌, ◌≤◌, ◌⊎◌, Bool, true, false, not, ◌&&◌, List, ◌∷◌, length, Option, None, option_map, is_some, Contains}
use Rattle.cc_check.specs.declared.judge.Finding.{Finding as Found}
use Rattle.cc_check.specs.declared.judge.Finding.TheVariants as findings
use Rattle.cc_check.specs.declared.sections.Section.{Section}
use Rattle.cc_check.specs.SectionTexts.{SectionsAhead, AreAhead, IsTextOf}
use Rattle.cc_defs.specs.declared.lists.Key.{Key}
use Rattle.cc_defs.specs.declared.log.Cause.{Cause}
use Rattle.cc_defs.specs.declared.log.Cause.TheVariants as causes
use Rattle.cc_defs.specs.declared.log.EndWord.{EndWord}
use Rattle.cc_defs.specs.declared.log.EndWord.TheVariants as words
use Rattle.cc_defs.specs.declared.log.LogLine.TheVariants as lines
use Rattle.cc_defs.specs.declared.log.LogVerdict.{LogVerdict}
use Rattle.cc_defs.specs.declared.log.LogVerdict.TheVariants as verdicts
use Rattle.cc_defs.specs.declared.refusal.Fault.{Fault}
use Rattle.cc_defs.specs.declared.refusal.Fault.TheVariants as faults
use Rattle.cc_defs.specs.declared.refusal.Refusal.{Refusal}
use Rattle.cc_clauses.specs.RowsOf.{IsRowOf}
use Rattle.cc_defs.specs.Description.{Description}
use Rattle.cc_defs.specs.GroundLaws.{PlainGroundQuery}
use Rattle.cc_defs.specs.Histories.{IsHistory}
use Rattle.cc_defs.specs.Limits.{most_log_bytes}
use Rattle.cc_defs.specs.declared.log.Version.{Version}
use Rattle.cc_defs.specs.Logs.{SectionText, Standing, Subject, AreSections, at_first, into_middle, next_horizon}
use Rattle.cc_defs.specs.Resolved.{Query}
use Rattle.cc_defs.specs.Sections.{Axioms, Finding, Right, Trailed, Wrong}
use Rattle.cc_lists.specs.Horizons.{last_at}
use Rattle.cc_lists.specs.Subjects.{subject_of}
use Rattle.cc_judge.specs.declared.standing.Next.{Next}
use Rattle.cc_judge.specs.declared.standing.Next.TheVariants as nexts
use Rattle.cc_judge.specs.declared.standing.Standing.{Standing as Held}
use Rattle.cc_judge.specs.Judging.{AreJudgedWithin, HasGoodAxioms, HasLine, ReachesLimit, limit_of}
use Rattle.cc_judge.specs.Single.{subject_over}

abbrev pub seen : Held → Standing
seen held = record { middle = held.middle; horizon = held.horizon; blocked = held.blocked; line = held.line }

-- the section that comes next, by what is known of a query without its description
abbrev pub IsPlaced : PlainGroundQuery → Option Key → Standing → (conditions : Bool) → (horizon : ℕ) → Type 0
IsPlaced query key standing conditions horizon =
    (conditions ≡ (is_some query.claim && not standing.middle)) × (horizon ≡ standing.horizon) × (standing.horizon ≤ last_at query key)

-- the one section of a log over axioms alone
abbrev pub IsOnly : Standing → (conditions : Bool) → (horizon : ℕ) → Type 0
IsOnly standing conditions horizon = (conditions ≡ false) × (horizon ≡ 0) × (standing.horizon ≡ 0)

-- ---- what is behind a section

abbrev pub GoesTo : Standing → Next → Type 0
GoesTo standing (nexts.Goes held) = seen held ≡ standing
GoesTo standing (nexts.Wrong line reason) = ⊥

abbrev pub IsBehind : Standing → (conditions : Bool) → EndWord → (blocks line : ℕ) → Next → Type 0
IsBehind standing conditions words.Empty blocks line next = GoesTo (next_horizon standing blocks line) next
IsBehind standing true words.Found blocks line next = GoesTo (into_middle standing blocks line) next
IsBehind standing false words.Found blocks line next = next ≡ nexts.Wrong line causes.NotRefuted
IsBehind standing conditions words.Spent blocks line next = next ≡ nexts.Wrong line causes.NotRefuted

-- what is wrong where a section ends with this word on this line, and a line that is wrong for this cause stands behind it
abbrev pub IsBehindTrail : (conditions : Bool) → EndWord → ℕ → Cause → Next → Type 0
IsBehindTrail conditions words.Empty line reason next = next ≡ nexts.Wrong (line + 1) reason
IsBehindTrail true words.Found line reason next = next ≡ nexts.Wrong (line + 1) reason
IsBehindTrail false words.Found line reason next = next ≡ nexts.Wrong line causes.NotRefuted
IsBehindTrail conditions words.Spent line reason next = next ≡ nexts.Wrong line causes.NotRefuted

abbrev pub IsBehindFinding : Standing → (conditions : Bool) → Finding → Next → Type 0
IsBehindFinding standing conditions (Right word blocks line) next = IsBehind standing conditions word blocks line next
IsBehindFinding standing conditions (Trailed word line reason) next = IsBehindTrail conditions word line reason next
IsBehindFinding standing conditions (Wrong line reason) next = next ≡ nexts.Wrong line reason

-- so many blocks were counted, and there is room for those of a section, and a line behind it
abbrev pub HasRoom : ℕ → Found → Type 0
HasRoom blocked (findings.Right ending blocks line) = (blocked + blocks ≤ 4294967295) × (line < 4294967295)
HasRoom blocked (findings.Trailed ending line reason) = line < 4294967295
HasRoom blocked (findings.Wrong line reason) = Unit {0}

-- what closes a log, by its first horizon
abbrev pub IsClosedAt : ℕ → Standing → LogVerdict → Type 0
IsClosedAt first standing verdict =
    ((standing.middle ≡ false) × (standing.horizon ≢ first) × (verdict ≡ verdicts.Accepted first (standing.horizon - 1) standing.blocked))
    ⊎ (((standing.middle ≡ true) ⊎ (standing.horizon ≡ first)) × (verdict ≡ verdicts.Refused standing.line causes.Section))

-- ---- what a section does to the verdict of a log

-- it blocks a row of a horizon
abbrev pub IsRowDenied : SectionText → ℕ → List ℕ → Type 0
IsRowDenied section horizon row = (section.horizon ≡ horizon) × HasLine section (lines.Block row)

abbrev pub row_of : Option Key → Option (List ℕ)
row_of key = option_map (λ low. low.row) key

-- What a log is judged over: the sections that it is to have, the limits that their axioms may pass, what these axioms are, and the
-- rows that are to be blocked at a horizon.
pub record Scope : Type 1 where
  pub subject : Subject
  pub limit : (conditions : Bool) → ℕ → Option Refusal
  pub Are : (conditions : Bool) → ℕ → Type 0
  pub IsAt : (horizon : ℕ) → List ℕ → Type 0

-- a query, or its listing after a key: the histories
abbrev pub scope_of : Description → Query → Option Key → Scope
scope_of d q key = record {
  subject = subject_of d q key;
  limit = limit_of d q key;
  Are = HasGoodAxioms d q key;
  IsAt = λ horizon row. IsHistory d q horizon (row_of key) row;
}

-- axioms alone: their rows
abbrev pub scope_over : Axioms → Scope
scope_over axioms = record {
  subject = subject_over axioms;
  limit = λ conditions horizon. None;
  Are = λ conditions horizon. Unit {0};
  IsAt = λ horizon row. IsRowOf axioms.sizes axioms.clauses row;
}

-- What is found behind a right section is found before it, since it passes no limit; and it blocks each row of the horizon that
-- it ends.
pub record IsPassed (scope : Scope) (standing : Standing) (section : SectionText) (next : Standing) : Type 0 where
  pub within : (sections : List SectionText) (verdict : LogVerdict) → AreJudgedWithin scope.subject scope.limit scope.Are next sections verdict →
      AreJudgedWithin scope.subject scope.limit scope.Are standing (section ∷ sections) verdict
  pub limited : (sections : List SectionText) (refusal : Refusal) → ReachesLimit scope.subject scope.limit next sections refusal →
      ReachesLimit scope.subject scope.limit standing (section ∷ sections) refusal
  pub denied : (horizon : ℕ) (row : List ℕ) → horizon < next.horizon → scope.IsAt horizon row → (horizon < standing.horizon) ⊎ IsRowDenied section horizon row

abbrev pub IsJudgedTo : Scope → Standing → SectionText → Next → Type 0
IsJudgedTo scope standing section (nexts.Goes held) = IsPassed scope standing section (seen held)
IsJudgedTo scope standing section (nexts.Wrong line reason) =
    (sections : List SectionText) → AreJudgedWithin scope.subject scope.limit scope.Are standing (section ∷ sections) (verdicts.Refused line reason)

-- the limit that it passes, or memory was wanting
abbrev pub IsSectionFault : Scope → Standing → SectionText → Fault → Type 0
IsSectionFault scope standing section (faults.Refused refusal) =
    (sections : List SectionText) → ReachesLimit scope.subject scope.limit standing (section ∷ sections) refusal
IsSectionFault scope standing section faults.OutOfMemory = Unit {0}

-- ---- numbers that stay small

-- so many blocks stand before the heading of a section, and its lines are not many
abbrev pub IsEarly : ℕ → SectionText → Type 0
IsEarly blocked section = (blocked ≤ section.line) × (section.line + length section.texts ≤ most_log_bytes + 2)

-- by its bytes
abbrev pub IsEarlyIn : ℕ → Section → Type 0
IsEarlyIn blocked section = (text : SectionText) × IsTextOf section text × IsEarly blocked text

-- the horizon does not go down, and no more blocks stand before the next heading than lines
abbrev pub IsForward : Standing → SectionText → Next → Type 0
IsForward standing section (nexts.Goes held) = (standing.horizon ≤ held.horizon) × (held.blocked ≤ section.line + 1 + length section.texts)
IsForward standing section (nexts.Wrong line reason) = Unit {0}

-- ---- the sections of a log

abbrev pub AreFew : List SectionText → Type 0
AreFew sections = (version : Version) × (texts : List (List ℕ)) × AreSections version 2 texts sections × (length texts ≤ most_log_bytes)

-- few sections are ahead
abbrev pub AreFewIn : SectionsAhead → Type 0
AreFewIn ahead = (sections : List SectionText) × AreAhead ahead sections × AreFew sections

-- one of them blocks a row of a horizon
abbrev pub IsDeniedIn : List SectionText → ℕ → List ℕ → Type 0
IsDeniedIn sections horizon row = (section : SectionText) × Contains sections section × IsRowDenied section horizon row

-- where the log is accepted, it begins at the first horizon, and each row of its horizons is blocked
abbrev pub AreAllDenied : Scope → List SectionText → LogVerdict → Type 0
AreAllDenied scope sections (verdicts.Accepted first last blocked) =
    (first ≡ scope.subject.first)
    × ((horizon : ℕ) (row : List ℕ) → first ≤ horizon → horizon ≤ last → scope.IsAt horizon row → IsDeniedIn sections horizon row)
AreAllDenied scope sections (verdicts.Refused line reason) = Unit {0}

abbrev pub IsVerdictOn : Scope → List SectionText → LogVerdict → Type 0
IsVerdictOn scope sections verdict =
    AreJudgedWithin scope.subject scope.limit scope.Are (at_first scope.subject) sections verdict × AreAllDenied scope sections verdict

abbrev pub IsFaultOn : Scope → List SectionText → Fault → Type 0
IsFaultOn scope sections (faults.Refused refusal) = ReachesLimit scope.subject scope.limit (at_first scope.subject) sections refusal
IsFaultOn scope sections faults.OutOfMemory = Unit {0}
