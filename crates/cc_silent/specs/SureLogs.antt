-- Logs of impossible atoms: their header and headings, which are accepted, and what that shows.
use Rattle.std.specs.Prelude.{◌≡◌, ℕ, ◌≤◌, false, true, List, [], ◌∷◌, ◌++◌, codes, decimal, Contains}
use Rattle.cc_check.specs.Silent.{SilentSubject}
use Rattle.cc_check.specs.declared.silent.SilentVerdict.{SilentVerdict}
use Rattle.cc_check.specs.declared.silent.SilentVerdict.TheVariants as verdicts
use Rattle.cc_defs.specs.Description.{Description}
use Rattle.cc_defs.specs.LogTexts.{IsShort, lines_in}
use Rattle.cc_defs.specs.Resolved.{Query}
use Rattle.cc_defs.specs.Runs.{range_of}
use Rattle.cc_silent.specs.declared.sure.AtomHeading.{AtomHeading}
use Rattle.cc_silent.specs.declared.sure_verdict.SureVerdict.{SureVerdict}
use Rattle.cc_silent.specs.declared.sure_verdict.SureVerdict.TheVariants as found
use Rattle.cc_silent.specs.Sought.{IsAtomAt, IsSought, With, sought_axioms, sought_refusal}

abbrev pub sure_header : List ℕ
sure_header = codes "ccalc sure 1" ++ 10 ∷ []

-- the heading of an atom: its horizon, its position and the index of its value
abbrev pub atom_heading : (horizon position value : ℕ) → List ℕ
atom_heading horizon position value = codes "a " ++ decimal horizon ++ codes " " ++ decimal position ++ codes " " ++ decimal value ++ 10 ∷ []

-- a text, with its line feed, is that of a heading, whose numbers have at most nine digits
pub record IsAtomHeading (text : List ℕ) (heading : AtomHeading) : Type 0 where
  pub horizon : IsShort heading.horizon
  pub position : IsShort heading.position
  pub value : IsShort heading.value
  pub spelled : text ≡ atom_heading heading.horizon heading.position heading.value

-- it names a horizon of the range, and an atom of it
pub record IsInRange (d : Description) (q : Query) (heading : AtomHeading) : Type 0 where
  pub least : (range_of q).0 ≤ heading.horizon
  pub most : heading.horizon ≤ (range_of q).1
  pub atom : IsAtomAt d heading.horizon heading.position heading.value

-- what a log of impossible atoms is read as
abbrev pub sure_subject : Description → Query → SilentSubject AtomHeading
sure_subject d q = record {
  header = sure_header;
  Reads = IsAtomHeading;
  Right = λ before. IsInRange d q;
  closes = λ heading. false;
  may_stay_open = true;
  axioms = λ heading. sought_axioms d q heading.horizon (With heading.position heading.value);
  limit = λ heading. sought_refusal d q heading.horizon (With heading.position heading.value);
}

-- what is said of a log of impossible atoms, as what is said of a log of silent sections
abbrev pub as_silent : SureVerdict → SilentVerdict
as_silent (found.Accepted impossible) = verdicts.Accepted impossible
as_silent (found.Refused line cause) = verdicts.Refused line cause

-- Where a log is accepted, no history has an atom that it names.
abbrev pub RefutesAtoms : Description → Query → List ℕ → SilentVerdict → Type 0
RefutesAtoms d q bytes verdict = (sections : ℕ) → verdict ≡ verdicts.Accepted sections →
    (heading : AtomHeading) → Contains (lines_in bytes) (atom_heading heading.horizon heading.position heading.value) → IsAtomHeading (atom_heading heading.horizon heading.position heading.value) heading →
    (row : List ℕ) → IsSought d q heading.horizon (With heading.position heading.value) row → ⊥
