-- Logs of silent sections: a header, then sections under headings of some form, each right in its place and ended by `empty`, without blocks.
use Rattle.std.specs.Prelude.{◌≡◌, ◌≢◌, ℕ, ◌+◌, ◌⊎◌, ◌||◌, Bool, false, if◌then◌else◌, List, [], ◌∷◌, ◌++◌, length, Option, Some, None}
use Rattle.std.specs.List.{AllByRecursion}
use Rattle.cc_defs.specs.declared.log.Cause.TheVariants as causes
use Rattle.cc_defs.specs.declared.log.EndWord.TheVariants as words
use Rattle.cc_defs.specs.declared.log.LogLine.{LogLine}
use Rattle.cc_defs.specs.declared.refusal.Fault.{Fault}
use Rattle.cc_defs.specs.declared.refusal.Fault.TheVariants as faults
use Rattle.cc_defs.specs.declared.refusal.Refusal.{Refusal}
use Rattle.cc_defs.specs.declared.log.Version.TheVariants.{First}
use Rattle.cc_defs.specs.LogTexts.{IsLine, lines_in}
use Rattle.cc_defs.specs.Sections.{Axioms, Finding, Right, Trailed, Wrong, HasNoForm, IsFound}
use Rattle.cc_check.specs.declared.silent.Place.{Place}
use Rattle.cc_check.specs.declared.silent.SilentVerdict.{SilentVerdict}
use Rattle.cc_check.specs.declared.silent.SilentVerdict.TheVariants as verdicts
use Rattle.cc_check.specs.Clauses.{as_text}

-- What a log of silent sections is read as: its first line, which texts are which headings (`Reads text h`), which headings are
-- right behind so many sections, behind which sections nothing may stand, whether a log may end behind another one, the axioms of the
-- section under a heading, and the limit that these pass.
pub record SilentSubject (H : Type 0) : Type 1 where
  pub header : List ℕ
  pub Reads : List ℕ → H → Type 0
  pub Right : (before : ℕ) → H → Type 0
  pub closes : H → Bool
  pub may_stay_open : Bool
  pub axioms : H → Axioms
  pub limit : H → Option Refusal

-- ---- places

abbrev pub first_place : Place
first_place = record { before = 0; is_closed = false }

abbrev pub place_behind : {H : Type 0} → SilentSubject H → Place → H → Place
place_behind subject place heading = record { before = place.before + 1; is_closed = subject.closes heading }

-- a heading is right in this place
abbrev pub IsRightAt : {H : Type 0} → SilentSubject H → Place → H → Type 0
IsRightAt subject place heading = (place.is_closed ≡ false) × subject.Right place.before heading

-- a log may end there
abbrev pub may_end : {H : Type 0} → SilentSubject H → Place → Bool
may_end subject place = place.is_closed || subject.may_stay_open

-- ---- sections: each a heading, with the number of its line, and the texts up to the next one that some heading reads

pub record SilentSection (H : Type 0) : Type 0 where
  pub heading : H
  pub line : ℕ
  pub texts : List (List ℕ)

-- no heading reads a text
abbrev pub IsUnread : {H : Type 0} → SilentSubject H → List ℕ → Type 0
IsUnread subject text = (heading : _) → subject.Reads text heading → ⊥

-- texts end, or begin with one that a heading reads
abbrev pub BeginsSection : {H : Type 0} → SilentSubject H → List (List ℕ) → Type 0
BeginsSection subject [] = Unit {0}
BeginsSection subject (text ∷ texts) = (heading : _) × subject.Reads text heading

-- texts from this line on begin with a section, and these are behind it
pub record IsNextSection {H : Type 0} (subject : SilentSubject H) (line : ℕ) (texts : List (List ℕ)) (section : SilentSection H) (behind : List (List ℕ)) : Type 0 where
  pub text : List ℕ
  pub parts : texts ≡ text ∷ (section.texts ++ behind)
  pub line_is : section.line ≡ line
  pub reads : subject.Reads text section.heading
  pub inside : AllByRecursion (IsUnread subject) section.texts
  pub next : BeginsSection subject behind

-- ---- what a section is found to be; `Passes` is what else holds of each right heading whose section is looked at

-- what refuses it, by its lines: nothing where they are right and end with `empty`
abbrev pub refused_for : Finding → Option SilentVerdict
refused_for (Wrong line cause) = Some (verdicts.Refused line cause)
refused_for (Trailed words.Empty line cause) = Some (verdicts.Refused (line + 1) cause)
refused_for (Trailed words.Found line _) = Some (verdicts.Refused line causes.NotRefuted)
refused_for (Trailed words.Spent line _) = Some (verdicts.Refused line causes.NotRefuted)
refused_for (Right words.Empty blocks line) = None
refused_for (Right words.Found blocks line) = Some (verdicts.Refused line causes.NotRefuted)
refused_for (Right words.Spent blocks line) = Some (verdicts.Refused line causes.NotRefuted)

-- its lines are found to be so, over its axioms
abbrev pub IsFoundIn : {H : Type 0} → SilentSubject H → SilentSection H → Finding → Type 0
IsFoundIn subject section finding =
    IsFound (as_text false) (subject.axioms section.heading) ((subject.axioms section.heading).clauses) 0 (section.line + 1) section.texts finding

-- it is right in its place, and ends with `empty`
abbrev pub IsEmptySection : {H : Type 0} → SilentSubject H → (H → Type 0) → Place → SilentSection H → Type 0
IsEmptySection subject Passes place section =
    IsRightAt subject place section.heading × Passes section.heading × ((finding : Finding) × IsFoundIn subject section finding × (refused_for finding ≡ None))

-- it is the first that is not, and the log is refused for it
abbrev pub IsWrongSection : {H : Type 0} → SilentSubject H → (H → Type 0) → Place → SilentSection H → SilentVerdict → Type 0
IsWrongSection subject Passes place section verdict =
    ((IsRightAt subject place section.heading → ⊥) × (verdict ≡ verdicts.Refused section.line causes.Section))
    ⊎ (IsRightAt subject place section.heading × Passes section.heading × ((finding : Finding) × IsFoundIn subject section finding × (refused_for finding ≡ Some verdict)))

-- ---- sections one after another

-- right sections lead from the texts at one line to those at another, and from one place to another
abbrev pub LeadsTo : {H : Type 0} → SilentSubject H → (H → Type 0) → Place → (line : ℕ) → List (List ℕ) → List (SilentSection H) →
    (last : Place) → (after : ℕ) → List (List ℕ) → Type 0
LeadsTo subject Passes place line texts [] last after rest = (last ≡ place) × (after ≡ line) × (rest ≡ texts)
LeadsTo subject Passes place line texts (section ∷ sections) last after rest =
    (behind : List (List ℕ)) × IsNextSection subject line texts section behind × IsEmptySection subject Passes place section
    × LeadsTo subject Passes (place_behind subject place section.heading) (line + 1 + length section.texts) behind sections last after rest

-- what is said of a log that ends at this line: a section is missing where it may not
abbrev pub ended_at : {H : Type 0} → SilentSubject H → Place → (line : ℕ) → SilentVerdict
ended_at subject place line = if may_end subject place then verdicts.Accepted place.before else verdicts.Refused line causes.Section

-- In this place the log ends, or has no heading where one has to stand, or its next section is wrong.
abbrev pub IsStopped : {H : Type 0} → SilentSubject H → (H → Type 0) → Place → (line : ℕ) → List (List ℕ) → SilentVerdict → Type 0
IsStopped subject Passes place line [] verdict = verdict ≡ ended_at subject place line
IsStopped subject Passes place line (text ∷ texts) verdict =
    (IsUnread subject text × HasNoForm First text × (verdict ≡ verdicts.Refused line causes.Form))
    ⊎ (IsUnread subject text × ((other : LogLine) × IsLine text other) × (verdict ≡ verdicts.Refused line causes.Section))
    ⊎ ((section : SilentSection _) × (behind : List (List ℕ)) × IsNextSection subject line (text ∷ texts) section behind
    × IsWrongSection subject Passes place section verdict)

abbrev pub IsSilentVerdictBehind : {H : Type 0} → SilentSubject H → (H → Type 0) → List (List ℕ) → SilentVerdict → Type 0
IsSilentVerdictBehind subject Passes texts verdict =
    (sections : List (SilentSection _)) × (place : Place) × (line : ℕ) × (rest : List (List ℕ))
    × LeadsTo subject Passes first_place 2 texts sections place line rest × IsStopped subject Passes place line rest verdict

abbrev pub IsSilentVerdictOf : {H : Type 0} → SilentSubject H → (H → Type 0) → List (List ℕ) → SilentVerdict → Type 0
IsSilentVerdictOf subject Passes [] verdict = verdict ≡ verdicts.Refused 1 causes.Header
IsSilentVerdictOf subject Passes (text ∷ texts) verdict =
    ((text ≢ subject.header) × (verdict ≡ verdicts.Refused 1 causes.Header))
    ⊎ ((text ≡ subject.header) × IsSilentVerdictBehind subject Passes texts verdict)

-- what a checker says of a log of silent sections
abbrev pub IsSilentVerdict : {H : Type 0} → SilentSubject H → List ℕ → SilentVerdict → Type 0
IsSilentVerdict subject bytes verdict = IsSilentVerdictOf subject (λ _. Unit {0}) (lines_in bytes) verdict

-- ---- limits

-- the axioms under a heading pass none
abbrev pub PassesNoLimit : {H : Type 0} → SilentSubject H → H → Type 0
PassesNoLimit subject heading = subject.limit heading ≡ None

-- It is the verdict, and the axioms of each section that is looked at for it pass no limit.
abbrev pub IsSilentVerdictWithin : {H : Type 0} → SilentSubject H → List ℕ → SilentVerdict → Type 0
IsSilentVerdictWithin subject bytes verdict = IsSilentVerdictOf subject (PassesNoLimit subject) (lines_in bytes) verdict

-- Behind right sections whose axioms pass no limit stands a heading that is right in its place, whose axioms pass this one.
pub record ReachesSilentLimit {H : Type 0} (subject : SilentSubject H) (texts : List (List ℕ)) (refusal : Refusal) : Type 0 where
  pub sections : List (SilentSection H)
  pub place : Place
  pub line : ℕ
  pub rest : List (List ℕ)
  pub leads : LeadsTo subject (PassesNoLimit subject) first_place 2 texts sections place line rest
  pub section : SilentSection H
  pub behind : List (List ℕ)
  pub next : IsNextSection subject line rest section behind
  pub right : IsRightAt subject place section.heading
  pub limit : subject.limit section.heading ≡ Some refusal

-- a limit is reached in a log, or memory was wanting
abbrev pub IsSilentFault : {H : Type 0} → SilentSubject H → List ℕ → Fault → Type 0
IsSilentFault subject bytes (faults.Refused refusal) =
    (texts : List (List ℕ)) × (lines_in bytes ≡ subject.header ∷ texts) × ReachesSilentLimit subject texts refusal
IsSilentFault subject bytes faults.OutOfMemory = Unit {0}
