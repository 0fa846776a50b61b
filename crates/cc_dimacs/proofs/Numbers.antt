-- Words as numbers and as literals: what is read is what they spell.
use Rattle.std.proofs.Common.{◌≡◌, ◌∙◌, ℕ, ◌+◌, ◌-◌, ◌*◌, ◌/◌, ◌%◌, ◌<◌, ◌≤◌, Bool, true, false, ◌||◌, eqb, ltb, List, [], ◌∷◌, ◌++◌, Option, Some, None, decimal, codes, refl, sym, ap, subst, arith, append_assoc, append-nil, inl, inr}
use Rattle.std.proofs.lemmas.Bool.{cases_Bool, eqb-true}
use Rattle.std.proofs.lemmas.Bool.Decides.{nat_tests}
use Rattle.std.proofs.lemmas.Fmt.{decimal_digit, decimal_step, decimal_by_steps}
use Rattle.cc_defs.specs.Clauses.{Literal}
use Rattle.cc_defs.specs.LogTexts.{IsShort, literal_text}
use Rattle.cc_defs.specs.Tokens.{is_digit}
use Rattle.cc_dimacs.specs.Reading.{named_of, negative_of, number_from, number_of, positive_of}

digit_is : (n : ℕ) → n < 10 → is_digit (48 + n) ≡ true
digit_is n below = grind (arith, nat_tests)

digit_bounds : (byte : ℕ) → is_digit byte ≡ true → (48 ≤ byte) × (byte ≤ 57)
digit_bounds byte is = (grind (arith, nat_tests), grind (arith, nat_tests))

in_range : (n : ℕ) → 0 < n → n ≤ 99999999 → (eqb n 0 || ltb 99999999 n) ≡ false
in_range n some most = grind (arith, nat_tests)

range_of : (n : ℕ) → (eqb n 0 || ltb 99999999 n) ≡ false → (0 < n) × (n ≤ 99999999)
range_of n is = (grind (arith, nat_tests), grind (arith, nat_tests))

more_digits : (number byte : ℕ) → 0 < number → number ≤ 99999999 → 48 ≤ byte → byte ≤ 57 →
    decimal (10 * number + (byte - 48)) ≡ decimal number ++ byte ∷ []
more_digits number byte some most low high =
    let front : (10 * number + (byte - 48)) / 10 ≡ number = omega arith in
    let last : 48 + (10 * number + (byte - 48)) % 10 ≡ byte = omega arith in
    decimal_step (10 * number + (byte - 48)) (omega arith) (omega arith) ∙ rw (front, last) refl

-- ---- what was read is there

record IsFrom (number : ℕ) (bytes : List ℕ) (n : ℕ) : Type 0 where
  short : IsShort n
  spelled : decimal number ++ bytes ≡ decimal n

from_sound : (number : ℕ) (bytes : List ℕ) (n : ℕ) → number ≤ 999999999 → number_from number bytes ≡ Some n → IsFrom number bytes n
from_sound number [] n short is =
    let same : number ≡ n = cc in
    record { short = omega arith; spelled = append-nil (decimal number) ∙ ap decimal same }
from_sound number (byte ∷ bytes) n short is = elim (cases_Bool (is_digit byte)) [
  | inr other ↦ let none : None ≡ Some n = rw other at is in absurd cc
  | inl digit ↦ elim (cases_Bool (eqb number 0 || ltb 99999999 number)) [
    | inl out ↦ let none : None ≡ Some n = rw (digit, out) at is in absurd cc
    | inr fits ↦
        let r = range_of number fits in
        let b = digit_bounds byte digit in
        let next : number_from (10 * number + (byte - 48)) bytes ≡ Some n = rw (digit, fits) at is in
        let h = from_sound (10 * number + (byte - 48)) bytes n (let lo = r.1 in let hi = b.1 in omega arith) next in
        record {
          short = h.short;
          spelled = sym (append_assoc (decimal number) (byte ∷ []) bytes) ∙ ap (λ (ds : List ℕ). ds ++ bytes) (sym (more_digits number byte r.0 r.1 b.0 b.1)) ∙ h.spelled;
        }
  ]
]

pub number_sound : (word : List ℕ) (n : ℕ) → number_of word ≡ Some n → IsShort n × (word ≡ decimal n)
number_sound [] n is = absurd cc
number_sound (byte ∷ bytes) n is = elim (cases_Bool (is_digit byte)) [
  | inr other ↦ let none : None ≡ Some n = rw other at is in absurd cc
  | inl digit ↦
      let b = digit_bounds byte digit in
      let next : number_from (byte - 48) bytes ≡ Some n = rw digit at is in
      let h = from_sound (byte - 48) bytes n (let hi = b.1 in omega arith) next in
      let first : decimal (byte - 48) ≡ byte ∷ [] = decimal_digit (byte - 48) (let hi = b.1 in omega arith) ∙ ap (λ (k : ℕ). k ∷ []) (let lo = b.0 in omega arith) in
      (h.short, ap (λ (ds : List ℕ). ds ++ bytes) (sym first) ∙ h.spelled)
]

-- ---- what is there is read

abbrev IsReadBy : ℕ → List ℕ → Type 0
IsReadBy n digits = n ≤ 999999999 → (rest : List ℕ) → number_of (digits ++ rest) ≡ number_from n rest

read_one : (n : ℕ) → n < 10 → IsReadBy n ((48 + n) ∷ [])
read_one n below short rest = let same : 48 + n - 48 ≡ n = omega arith in rw (digit_is n below, same) refl

read_more : (n : ℕ) (digits : List ℕ) → 10 ≤ n → IsReadBy (n / 10) digits → IsReadBy n (digits ++ (48 + n % 10) ∷ [])
read_more n digits large front short rest =
    let same : 10 * (n / 10) + (48 + n % 10 - 48) ≡ n = omega arith in
    rw append_assoc (front (omega arith) ((48 + n % 10) ∷ rest)
    ∙ rw (digit_is (n % 10) (omega arith), in_range (n / 10) (omega arith) (omega arith), same) refl)

pub number_complete : (n : ℕ) → IsShort n → number_of (decimal n) ≡ Some n
number_complete n short = ap number_of (sym (append-nil (decimal n))) ∙ decimal_by_steps IsReadBy read_one read_more n (omega arith) short []

-- two short numbers that are written alike
pub one_number : (m n : ℕ) → IsShort m → IsShort n → decimal m ≡ decimal n → m ≡ n
one_number m n first second same = let both : Some m ≡ Some n = sym (number_complete m first) ∙ ap number_of same ∙ number_complete n second in cc

-- ---- literals

abbrev pub zero_word : Literal
zero_word = record { variable = 0; positive = true }

-- what a word names: a literal of a short variable, or the 0 behind a clause
pub record Names (word : List ℕ) (literal : Literal) : Type 0 where
  pub short : IsShort literal.variable
  pub some : 0 < literal.variable → word ≡ literal_text literal
  pub none : literal.variable ≡ 0 → word ≡ codes "0"

positive_names : (word : List ℕ) (number : ℕ) → number_of word ≡ Some number → Names word (record { variable = number; positive = true })
positive_names word number is = let h = number_sound word number is in record {
  short = h.0;
  some = λ more. h.1;
  none = λ zero_is. h.1 ∙ ap decimal zero_is ∙ decimal_digit 0 (omega arith);
}

named_by : (word digits : List ℕ) (read : Option ℕ) (literal : Literal) → ((number : ℕ) → read ≡ Some number → Names word (record { variable = number; positive = true })) → positive_of read ≡ Some literal → Names word literal
named_by word digits None literal h is = absurd cc
named_by word digits (Some number) literal h is =
    let same : record { variable = number; positive = true } ≡ literal = cc in
    subst (Names word) same (h number refl)

negated_by : (digits : List ℕ) (read : Option ℕ) (literal : Literal) → number_of digits ≡ read → negative_of read ≡ Some literal → Names (45 ∷ digits) literal
negated_by digits None literal at is = absurd cc
negated_by digits (Some number) literal at is = elim (cases_Bool (eqb number 0)) [
  | inl zero_is ↦ let none : None ≡ Some literal = rw zero_is at is in absurd cc
  | inr other ↦
      let read : Some (record { variable = number; positive = false }) ≡ Some literal = rw other at is in
      let same : record { variable = number; positive = false } ≡ literal = cc in
      let h = number_sound digits number at in
      subst (Names (45 ∷ digits)) same (record {
        short = h.0;
        some = λ more. ap (λ (ds : List ℕ). 45 ∷ ds) h.1;
        none = λ zero_is. absurd (grind (arith, nat_tests));
      })
]

pub named_sound : (word : List ℕ) (literal : Literal) → named_of word ≡ Some literal → Names word literal
named_sound [] literal is = absurd cc
named_sound (byte ∷ bytes) literal is = elim (cases_Bool (eqb byte 45)) [
  | inl hyphen ↦
      let read : negative_of (number_of bytes) ≡ Some literal = rw hyphen at is in
      subst (λ (b : ℕ). Names (b ∷ bytes) literal) (sym (eqb-true byte 45 hyphen)) (negated_by bytes (number_of bytes) literal refl read)
  | inr other ↦
      let read : positive_of (number_of (byte ∷ bytes)) ≡ Some literal = rw other at is in
      named_by (byte ∷ bytes) [] (number_of (byte ∷ bytes)) literal (λ number at. positive_names (byte ∷ bytes) number at) read
]

named_positive : (word : List ℕ) (number : ℕ) → number_of word ≡ Some number → named_of word ≡ Some (record { variable = number; positive = true })
named_positive [] number is = absurd cc
named_positive (byte ∷ bytes) number is = elim (cases_Bool (eqb byte 45)) [
  | inl hyphen ↦
      let same = eqb-true byte 45 hyphen in
      let wrong : number_of (45 ∷ bytes) ≡ Some number = subst (λ (b : ℕ). number_of (b ∷ bytes) ≡ Some number) same is in
      absurd cc
  | inr other ↦ rw other (ap positive_of is)
]

pub named_complete : (literal : Literal) → 0 < literal.variable → IsShort literal.variable → named_of (literal_text literal) ≡ Some literal
named_complete literal some short = go literal.variable literal.positive some short
  where
    go : (variable : ℕ) (sign : Bool) → 0 < variable → IsShort variable → named_of (literal_text (record { variable = variable; positive = sign })) ≡ Some (record { variable = variable; positive = sign })
    go variable true some short = named_positive (decimal variable) variable (number_complete variable short)
    go variable false some short =
        let other : eqb variable 0 ≡ false = grind (arith, nat_tests) in
        ap negative_of (number_complete variable short) ∙ rw other refl

pub zero_named : named_of (codes "0") ≡ Some zero_word
zero_named = refl
