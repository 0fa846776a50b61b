-- Headings of atoms: how one is spelled, and that a text says no two.
use Rattle.std.proofs.Common.{◌≡◌, ◌≢◌, ◌∙◌, ℕ, List, [], ◌∷◌, ◌++◌, refl, sym, subst, ap, append_assoc, get_or}
use Rattle.std.specs.Prelude.{decimal}
use Rattle.std.proofs.lemmas.Bool.{eq-eqb, false≢true}
use Rattle.cc_log.specs.Fronts.{IsNumberAt}
use Rattle.cc_log.proofs.Numbers.{one_number}
use Rattle.cc_silent.specs.declared.sure.AtomHeading.{AtomHeading}
use Rattle.cc_silent.specs.SureLogs.{IsAtomHeading, atom_heading, sure_header}
use Rattle.cc_silent.specs.SureParts.{HasNoPart, IsLastPart, IsPart}

-- what stands behind the letter and a space
abbrev pub last_of : ℕ → List ℕ
last_of value = decimal value ++ 10 ∷ []

abbrev pub middle_of : (position value : ℕ) → List ℕ
middle_of position value = decimal position ++ 32 ∷ last_of value

abbrev pub numbers_of : (horizon position value : ℕ) → List ℕ
numbers_of horizon position value = decimal horizon ++ 32 ∷ middle_of position value

pub heading_is : (horizon position value : ℕ) → atom_heading horizon position value ≡ 97 ∷ 32 ∷ numbers_of horizon position value
heading_is horizon position value =
    let A : List ℕ = 97 ∷ 32 ∷ [] in
    let S : List ℕ = 32 ∷ [] in
    append_assoc ((((A ++ decimal horizon) ++ S) ++ decimal position) ++ S) (decimal value) (10 ∷ [])
    ∙ append_assoc (((A ++ decimal horizon) ++ S) ++ decimal position) S (last_of value)
    ∙ append_assoc ((A ++ decimal horizon) ++ S) (decimal position) (32 ∷ last_of value)
    ∙ append_assoc (A ++ decimal horizon) S (middle_of position value)
    ∙ append_assoc A (decimal horizon) (32 ∷ middle_of position value)

-- the parts of a heading
pub record HasParts (numbers : List ℕ) (heading : AtomHeading) : Type 0 where
  pub horizon : IsPart numbers heading.horizon (middle_of heading.position heading.value)
  pub position : IsPart (middle_of heading.position heading.value) heading.position (last_of heading.value)
  pub value : IsLastPart (last_of heading.value) heading.value

pub parts_of : (text : List ℕ) (heading : AtomHeading) → IsAtomHeading text heading → (numbers : List ℕ) × (text ≡ 97 ∷ 32 ∷ numbers) × HasParts numbers heading
parts_of text heading is = (
  numbers_of heading.horizon heading.position heading.value,
  is.spelled ∙ heading_is heading.horizon heading.position heading.value,
  record {
    horizon = record { formed = is.horizon; spelled = refl; ends = refl };
    position = record { formed = is.position; spelled = refl; ends = refl };
    value = record { formed = is.value; spelled = refl; ends = refl };
  },
)

-- of a text that begins so
pub parts_at : (numbers : List ℕ) (heading : AtomHeading) → IsAtomHeading (97 ∷ 32 ∷ numbers) heading → HasParts numbers heading
parts_at numbers heading is =
    let (other, same, parts) = parts_of (97 ∷ 32 ∷ numbers) heading is in
    subst (λ (n : List ℕ). HasParts n heading) (let e : other ≡ numbers = cc in e) parts

-- what is read is a heading
pub reads_heading : (text numbers behind last : List ℕ) (horizon position value : ℕ) → text ≡ 97 ∷ 32 ∷ numbers → IsPart numbers horizon behind → IsPart behind position last → IsLastPart last value →
    IsAtomHeading text (record { horizon = horizon; position = position; value = value })
reads_heading text numbers behind last horizon position value text_is first second third = record {
  horizon = first.formed;
  position = second.formed;
  value = third.formed;
  spelled = text_is ∙ ap (λ (l : List ℕ). 97 ∷ 32 ∷ l) (first.spelled ∙ ap (λ (l : List ℕ). decimal horizon ++ 32 ∷ l) (second.spelled ∙ ap (λ (l : List ℕ). decimal position ++ 32 ∷ l) third.spelled))
      ∙ sym (heading_is horizon position value);
}

-- a part is read in one way
pub one_part : (text : List ℕ) (n m : ℕ) (behind other : List ℕ) → IsPart text n behind → IsPart text m other → (n ≡ m) × (behind ≡ other)
one_part text n m behind other a b =
    let (same, rest) = one_number text n m (32 ∷ behind) (32 ∷ other) a b in (same, (let e : behind ≡ other = cc in e))

-- ---- where a part is missing, there is no heading

pub no_first : (numbers : List ℕ) → HasNoPart numbers → (heading : AtomHeading) → IsAtomHeading (97 ∷ 32 ∷ numbers) heading → ⊥
no_first numbers none heading is = none heading.horizon (middle_of heading.position heading.value) (parts_at numbers heading is).horizon

pub no_second : (numbers behind : List ℕ) (horizon : ℕ) → IsPart numbers horizon behind → HasNoPart behind → (heading : AtomHeading) → IsAtomHeading (97 ∷ 32 ∷ numbers) heading → ⊥
no_second numbers behind horizon first none heading is =
    let parts = parts_at numbers heading is in
    let same = (one_part numbers heading.horizon horizon (middle_of heading.position heading.value) behind parts.horizon first).1 in
    none heading.position (last_of heading.value) (subst (λ (l : List ℕ). IsPart l heading.position (last_of heading.value)) same parts.position)

pub no_third : (numbers behind last : List ℕ) (horizon position : ℕ) → IsPart numbers horizon behind → IsPart behind position last → ((value : ℕ) → IsLastPart last value → ⊥) →
    (heading : AtomHeading) → IsAtomHeading (97 ∷ 32 ∷ numbers) heading → ⊥
no_third numbers behind last horizon position first second none heading is =
    let parts = parts_at numbers heading is in
    let same = (one_part numbers heading.horizon horizon (middle_of heading.position heading.value) behind parts.horizon first).1 in
    let again = (one_part behind heading.position position (last_of heading.value) last
    (subst (λ (l : List ℕ). IsPart l heading.position (last_of heading.value)) same parts.position) second).1 in
    none heading.value (subst (λ (l : List ℕ). IsLastPart l heading.value) again parts.value)

-- a text says no two headings
pub one_heading : (text : List ℕ) (one other : AtomHeading) → IsAtomHeading text one → IsAtomHeading text other → one ≡ other
one_heading text one other is so =
    let (numbers, text_is, parts) = parts_of text one is in
    let others = parts_at numbers other (subst (λ (t : List ℕ). IsAtomHeading t other) text_is so) in
    let (horizon, behind) = one_part numbers one.horizon other.horizon (middle_of one.position one.value) (middle_of other.position other.value) parts.horizon others.horizon in
    let (position, last) = one_part (middle_of one.position one.value) one.position other.position (last_of one.value) (last_of other.value) parts.position
    (subst (λ (l : List ℕ). IsPart l other.position (last_of other.value)) (sym behind) others.position) in
    let value = (one_number (last_of one.value) one.value other.value (10 ∷ []) (10 ∷ []) parts.value (subst (λ (l : List ℕ). IsLastPart l other.value) (sym last) others.value)).0 in
    λ i. record { horizon = horizon i; position = position i; value = value i }

other_letter : (numbers : List ℕ) → 97 ∷ 32 ∷ numbers ≡ sure_header → ⊥
other_letter numbers same = false≢true (eq-eqb 97 99 (ap (λ (l : List ℕ). get_or l 0 0) same))

-- the first line of a log is none
pub no_header : (text : List ℕ) (heading : AtomHeading) → IsAtomHeading text heading → text ≢ sure_header
no_header text heading is same =
    let (numbers, text_is, parts) = parts_of text heading is in
    other_letter numbers (sym text_is ∙ same)

-- ---- what is behind a number

pub no_space : (text rest : List ℕ) (number : ℕ) → IsNumberAt text number rest → ((behind : List ℕ) → rest ≡ 32 ∷ behind → ⊥) → HasNoPart text
no_space text rest number is none other behind part = none behind (one_number text number other rest (32 ∷ behind) is part).1

pub no_feed : (text rest : List ℕ) (number : ℕ) → IsNumberAt text number rest → (rest ≡ 10 ∷ [] → ⊥) → (other : ℕ) → IsLastPart text other → ⊥
no_feed text rest number is none other part = none (one_number text number other rest (10 ∷ []) is part).1

pub no_letter : (text : List ℕ) → ((behind : List ℕ) → text ≡ 97 ∷ 32 ∷ behind → ⊥) → (heading : AtomHeading) → IsAtomHeading text heading → ⊥
no_letter text none heading is = let (numbers, text_is, parts) = parts_of text heading is in none numbers text_is

-- a heading of a text that begins so is one of what it is spelled as
pub none_at : (text numbers : List ℕ) → text ≡ 97 ∷ 32 ∷ numbers → ((heading : AtomHeading) → IsAtomHeading (97 ∷ 32 ∷ numbers) heading → ⊥) → (heading : AtomHeading) → IsAtomHeading text heading → ⊥
none_at text numbers same none heading is = none heading (subst (λ (t : List ℕ). IsAtomHeading t heading) same is)
