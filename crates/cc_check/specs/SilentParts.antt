-- The parts of a log of silent sections, one after another.
use Rattle.std.specs.Prelude.{◌≡◌, ℕ, ◌+◌, ◌≤◌, List, ◌++◌, length, Some}
use Rattle.std.specs.List.{AllByRecursion}
use Rattle.cc_defs.specs.declared.refusal.Fault.{Fault}
use Rattle.cc_defs.specs.declared.refusal.Fault.TheVariants as faults
use Rattle.cc_defs.specs.LogTexts.{lines_in}
use Rattle.cc_check.specs.declared.silent.Passed.{Passed}
use Rattle.cc_check.specs.declared.silent.Place.{Place}
use Rattle.cc_check.specs.declared.silent.Passed.TheVariants as passeds
use Rattle.cc_check.specs.Silent.{BeginsSection, IsEmptySection, IsNextSection, IsRightAt, IsStopped, IsUnread, PassesNoLimit, ReachesSilentLimit, SilentSection, SilentSubject}

-- a text up to the next heading, so many lines, and what is behind them
pub record IsSilentInside {H : Type 0} (subject : SilentSubject H) (all inside : List ℕ) (count : ℕ) (rest : List ℕ) : Type 0 where
  pub unread : AllByRecursion (IsUnread subject) (lines_in inside)
  pub counted : count ≡ length (lines_in inside)
  pub parted : lines_in all ≡ lines_in inside ++ lines_in rest
  pub next : BeginsSection subject (lines_in rest)
  pub few : length inside ≤ length all
  pub fewer : count + length rest ≤ length all

-- what a text, and texts behind it, are at this line, in this place: a right section that is passed, with whether it closes the log; or
-- the log stops there
abbrev pub IsPassedFrom : {H : Type 0} → SilentSubject H → Place → (line : ℕ) → List (List ℕ) → Passed → Type 0
IsPassedFrom subject place line texts (passeds.Goes closes count rest) =
    (section : SilentSection _) × IsNextSection subject line texts section (lines_in rest.now) × IsEmptySection subject (PassesNoLimit subject) place section
    × (closes ≡ subject.closes section.heading) × (count ≡ length section.texts)
IsPassedFrom subject place line texts (passeds.Stops verdict) = IsStopped subject (PassesNoLimit subject) place line texts verdict

-- so many lines and bytes are behind it
abbrev pub IsShorter : ℕ → Passed → Type 0
IsShorter bytes (passeds.Goes closes count rest) = count + length rest.now ≤ bytes
IsShorter bytes (passeds.Stops verdict) = Unit {0}

-- a section at this line has a heading that is right in this place, whose axioms pass this limit, or memory was wanting
abbrev pub IsPassFault : {H : Type 0} → SilentSubject H → Place → (line : ℕ) → List (List ℕ) → Fault → Type 0
IsPassFault subject place line texts (faults.Refused refusal) =
    (section : SilentSection _) × (behind : List (List ℕ)) × IsNextSection subject line texts section behind × IsRightAt subject place section.heading
    × (subject.limit section.heading ≡ Some refusal)
IsPassFault subject place line texts faults.OutOfMemory = Unit {0}

-- the same of all texts behind the header
abbrev pub IsBehindFault : {H : Type 0} → SilentSubject H → List (List ℕ) → Fault → Type 0
IsBehindFault subject texts (faults.Refused refusal) = ReachesSilentLimit subject texts refusal
IsBehindFault subject texts faults.OutOfMemory = Unit {0}
