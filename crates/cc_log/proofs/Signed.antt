-- The literal at the front of a text.
use Rattle.std.proofs.Common.{◌≡◌, ℕ, ◌<◌, ◌≤◌, ◌≢◌, suc, Bool, true, false, List, [], ◌∷◌, ◌++◌, Option, Some, None, decimal, length, get_or, drop, take, ◌-◌, refl, sym, ap, subst, ◌∙◌, arith, inl, inr, ◌⊎◌}
use Rattle.std.specs.Prelude.{MatchOption}
use Rattle.std.specs.Borrow.{Bor}
use Rattle.cc_defs.specs.Clauses.{Literal}
use Rattle.cc_log.specs.Fronts.{IsNumberAt, HasNoNumber, IsSignedAt, HasNoSigned}
use Rattle.cc_log.proofs.Numbers.{number_complete, one_number, nothing_there}
use Rattle.std.proofs.lemmas.List.{take_rest}
use Rattle.std.proofs.lemmas.Option.{none-some}

-- a number at the front of a sign is none
pub number_or_minus : (text : List ℕ) (n : ℕ) (rest : List ℕ) → IsNumberAt (45 ∷ text) n rest → ⊥
number_or_minus text n rest h = none-some (n, rest) (number_complete (45 ∷ text) n rest h)

signed_parts : (text : List ℕ) (variable : ℕ) (positive : Bool) (rest : List ℕ) →
    IsSignedAt text (record { variable = variable; positive = positive }) rest →
    ((positive ≡ true) × IsNumberAt text variable rest)
    ⊎ ((behind : List ℕ) × (text ≡ 45 ∷ behind) × (positive ≡ false) × (0 < variable) × IsNumberAt behind variable rest)
signed_parts text variable true rest h = inl (refl, record { formed = h.formed; spelled = h.spelled; ends = h.ends })
signed_parts text variable false rest h =
    inr (decimal variable ++ rest, h.spelled, refl, h.some refl, record { formed = h.formed; spelled = refl; ends = h.ends })

pub signed_cases : (text : List ℕ) (literal : Literal) (rest : List ℕ) → IsSignedAt text literal rest →
    ((literal.positive ≡ true) × IsNumberAt text literal.variable rest)
    ⊎ ((behind : List ℕ) × (text ≡ 45 ∷ behind) × (literal.positive ≡ false) × (0 < literal.variable) × IsNumberAt behind literal.variable rest)
signed_cases text literal rest h = signed_parts text literal.variable literal.positive rest h

pub positive_signed : (text : List ℕ) (literal : Literal) (rest : List ℕ) → literal.positive ≡ true → IsNumberAt text literal.variable rest → IsSignedAt text literal rest
positive_signed text literal rest positive h = record {
  formed = h.formed;
  some = λ negative. let both : true ≡ false = sym positive ∙ negative in cc;
  spelled = rw positive h.spelled;
  ends = h.ends;
}

pub negative_signed : (text : List ℕ) (literal : Literal) (rest : List ℕ) → literal.positive ≡ false → 0 < literal.variable → IsNumberAt text literal.variable rest →
    IsSignedAt (45 ∷ text) literal rest
negative_signed text literal rest negative some h = record {
  formed = h.formed;
  some = λ _. some;
  spelled = rw negative (ap (λ (t : List ℕ). 45 ∷ t) h.spelled);
  ends = h.ends;
}

pub no_negative : (text : List ℕ) → ((number : ℕ) (rest : List ℕ) → 0 < number → IsNumberAt text number rest → ⊥) → HasNoSigned (45 ∷ text)
no_negative text none literal rest h = elim (signed_cases (45 ∷ text) literal rest h) [
  | inl (positive, number) ↦ number_or_minus text literal.variable rest number
  | inr (behind, is, negative, some, number) ↦
      let same : text ≡ behind = cc in
      none literal.variable rest some (subst (λ (t : List ℕ). IsNumberAt t literal.variable rest) (sym same) number)
]

pub no_positive : (text : List ℕ) → (length text < 1) ⊎ (get_or text 0 0 ≢ 45) → HasNoNumber text → HasNoSigned text
no_positive text other none literal rest h = elim (signed_cases text literal rest h) [
  | inl (positive, number) ↦ none literal.variable rest number
  | inr (behind, is, negative, some, number) ↦ elim other [
    | inl short ↦ let long : length text ≡ suc (length behind) = ap length is in omega arith
    | inr differs ↦ differs (ap (λ (t : List ℕ). get_or t 0 0) is)
  ]
]

abbrev make : ℕ → Bool → Literal
make variable positive = record { variable = variable; positive = positive }

pub same_literal : (a b : Literal) → a.variable ≡ b.variable → a.positive ≡ b.positive → a ≡ b
same_literal a b variable positive = ap (λ (v : ℕ). make v a.positive) variable ∙ ap (make b.variable) positive

pub one_signed : (text : List ℕ) (a b : Literal) (rest other : List ℕ) → IsSignedAt text a rest → IsSignedAt text b other → (a ≡ b) × (rest ≡ other)
one_signed text a b rest other x y = elim (signed_cases text a rest x) [
  | inl (positive, number) ↦ elim (signed_cases text b other y) [
    | inl (too, second) ↦ let same = one_number text a.variable b.variable rest other number second in (same_literal a b same.0 (positive ∙ sym too), same.1)
    | inr (behind, is, negative, some, second) ↦
        absurd (number_or_minus behind a.variable rest (subst (λ (t : List ℕ). IsNumberAt t a.variable rest) is number))
  ]
  | inr (behind, is, negative, some, number) ↦ elim (signed_cases text b other y) [
    | inl (too, second) ↦ absurd (number_or_minus behind b.variable other (subst (λ (t : List ℕ). IsNumberAt t b.variable other) is second))
    | inr (behind_b, is_b, too, some_b, second) ↦
        let tail : behind_b ≡ behind = let both : 45 ∷ behind_b ≡ 45 ∷ behind = sym is_b ∙ is in cc in
        let same = one_number behind a.variable b.variable rest other number (subst (λ (t : List ℕ). IsNumberAt t b.variable other) tail second) in
        (same_literal a b same.0 (negative ∙ sym too), same.1)
  ]
]

-- ---- by what was tested

pub first_and_rest : (text : List ℕ) (byte : ℕ) → 1 ≤ length text → get_or text 0 0 ≡ byte → text ≡ byte ∷ drop 1 text
first_and_rest [] byte some is = absurd (omega arith)
first_and_rest (first ∷ rest) byte some is = ap (λ (b : ℕ). b ∷ rest) is

pub none_at_all : (text : List ℕ) → length text < 1 → HasNoSigned text
none_at_all text short = no_positive text (inl short) (nothing_there text short)

pub front : (text : List ℕ) (byte : ℕ) → 1 ≤ length text → get_or text 0 0 ≡ byte → text ≡ byte ∷ take (length text - 1) (drop 1 text)
front text byte some is = first_and_rest text byte some is ∙ ap (λ (t : List ℕ). byte ∷ t) (sym (take_rest text 1))

abbrev Signed : List ℕ → ℕ × Bool × Bor (List ℕ) → Type 0
Signed text read = IsSignedAt text (record { variable = read.0; positive = read.1 }) read.2.now

pub negative_result : (text behind : List ℕ) (r : Option (ℕ × Bool × Bor (List ℕ))) → text ≡ 45 ∷ behind →
    MatchOption r ((number : ℕ) (rest : List ℕ) → 0 < number → IsNumberAt behind number rest → ⊥)
    (λ read. (read.1 ≡ false) × (0 < read.0) × IsNumberAt behind read.0 read.2.now) →
    MatchOption r (HasNoSigned text) (λ read. IsSignedAt text (record { variable = read.0; positive = read.1 }) read.2.now)
negative_result text behind None is h = subst HasNoSigned (sym is) (no_negative behind h)
negative_result text behind (Some read) is (negative, above, h) =
    subst (λ (t : List ℕ). Signed t read) (sym is) (negative_signed behind (record { variable = read.0; positive = read.1 }) read.2.now negative above h)
