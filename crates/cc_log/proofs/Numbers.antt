-- The number at the front of a text, read digit by digit.
use Rattle.std.proofs.Common.{◌≡◌, ◌≢◌, ℕ, ◌+◌, ◌-◌, ◌*◌, ◌/◌, ◌%◌, ◌<◌, ◌≤◌, true, false, ◌||◌, eqb, ltb, List, [], ◌∷◌, ◌++◌, Option, Some, None, decimal, refl, sym, ap, subst, ◌∙◌, arith, append_assoc, length, get_or, drop, take, inl, inr, ◌⊎◌}
use Rattle.std.proofs.lemmas.Bool.{cases_Bool}
use Rattle.std.proofs.lemmas.Bool.Decides.{nat_tests}
use Rattle.std.proofs.lemmas.Fmt.{decimal_digit, decimal_step, decimal_by_steps}
use Rattle.std.proofs.lemmas.List.{take_rest}
use Rattle.std.proofs.lemmas.Option.{same_Some, none-some}
use Rattle.cc_defs.specs.Tokens.{is_digit}
use Rattle.cc_log.specs.Fronts.{number_from, number_of}
use Rattle.cc_log.specs.Fronts.{EndsNumber, IsNumberAt, HasNoNumber}

abbrev pub read : ℕ → List ℕ → Option (ℕ × List ℕ)
read number rest = Some (number, rest)

digit_is : (n : ℕ) → n < 10 → is_digit (48 + n) ≡ true
digit_is n below = grind (arith, nat_tests)

pub digit_bounds : (byte : ℕ) → is_digit byte ≡ true → (48 ≤ byte) × (byte ≤ 57)
digit_bounds byte is = (grind (arith, nat_tests), grind (arith, nat_tests))

in_range : (n : ℕ) → 0 < n → n ≤ 99999999 → (eqb n 0 || ltb 99999999 n) ≡ false
in_range n some most = grind (arith, nat_tests)

range_of : (n : ℕ) → (eqb n 0 || ltb 99999999 n) ≡ false → (0 < n) × (n ≤ 99999999)
range_of n is = (grind (arith, nat_tests), grind (arith, nat_tests))

more_digits : (number byte : ℕ) → 0 < number → number ≤ 99999999 → 48 ≤ byte → byte ≤ 57 →
    decimal (10 * number + (byte - 48)) ≡ decimal number ++ byte ∷ []
more_digits number byte some most low high =
    let n : ℕ = 10 * number + (byte - 48) in
    let front : (10 * number + (byte - 48)) / 10 ≡ number = omega arith in
    let last : 48 + (10 * number + (byte - 48)) % 10 ≡ byte = omega arith in
    decimal_step (10 * number + (byte - 48)) (omega arith) (omega arith) ∙ rw (front, last) refl

-- ---- what was read is there

pub record IsFrom (number : ℕ) (bytes : List ℕ) (n : ℕ) (rest : List ℕ) : Type 0 where
  pub short : n ≤ 999999999
  pub spelled : decimal number ++ bytes ≡ decimal n ++ rest
  pub ends : EndsNumber rest

pub parts : (n m : ℕ) (rest other : List ℕ) → read n rest ≡ read m other → (n ≡ m) × (rest ≡ other)
parts n m rest other is =
    let both = same_Some _ _ is in
    (ap (λ (p : ℕ × List ℕ). p.0) both, ap (λ (p : ℕ × List ℕ). p.1) both)

from_here : (number n : ℕ) (bytes rest : List ℕ) → number ≤ 999999999 → EndsNumber bytes → read number bytes ≡ read n rest → IsFrom number bytes n rest
from_here number n bytes rest short ends is =
    let both = parts number n bytes rest is in
    let same : number ≡ n = both.0 in
    let there : bytes ≡ rest = both.1 in
    subst (λ (k : ℕ). IsFrom number bytes k rest) same (subst (λ (r : List ℕ). IsFrom number bytes number r) there (record { short = short; spelled = refl; ends = ends }))

pub from_sound : (number : ℕ) (bytes : List ℕ) (n : ℕ) (rest : List ℕ) → number ≤ 999999999 → number_from number bytes ≡ Some (n, rest) → IsFrom number bytes n rest
from_sound number [] n rest short is = from_here number n [] rest short tt is
from_sound number (byte ∷ bytes) n rest short is = elim (cases_Bool (is_digit byte)) [
  | inr other ↦ from_here number n (byte ∷ bytes) rest short other (rw other at is)
  | inl digit ↦ elim (cases_Bool (eqb number 0 || ltb 99999999 number)) [
    | inl out ↦ let none : None ≡ Some (n, rest) = rw (digit, out) at is in absurd (none-some _ none)
    | inr fits ↦
        let r = range_of number fits in
        let b = digit_bounds byte digit in
        let next : number_from (10 * number + (byte - 48)) bytes ≡ Some (n, rest) = rw (digit, fits) at is in
        let h = from_sound (10 * number + (byte - 48)) bytes n rest (let lo = r.1 in let hi = b.1 in omega arith) next in
        record {
          short = h.short;
          spelled = sym (append_assoc (decimal number) (byte ∷ []) bytes) ∙ ap (λ (ds : List ℕ). ds ++ bytes) (sym (more_digits number byte r.0 r.1 b.0 b.1)) ∙ h.spelled;
          ends = h.ends;
        }
  ]
]

pub number_sound : (text : List ℕ) (n : ℕ) (rest : List ℕ) → number_of text ≡ Some (n, rest) → IsNumberAt text n rest
number_sound [] n rest is = absurd (none-some _ is)
number_sound (byte ∷ bytes) n rest is = elim (cases_Bool (is_digit byte)) [
  | inr other ↦ let none : None ≡ Some (n, rest) = rw other at is in absurd (none-some _ none)
  | inl digit ↦
      let b = digit_bounds byte digit in
      let next : number_from (byte - 48) bytes ≡ Some (n, rest) = rw digit at is in
      let h = from_sound (byte - 48) bytes n rest (let hi = b.1 in omega arith) next in
      let first : decimal (byte - 48) ≡ byte ∷ [] = decimal_digit (byte - 48) (let hi = b.1 in omega arith) ∙ ap (λ (k : ℕ). k ∷ []) (let lo = b.0 in omega arith) in
      record { formed = h.short; spelled = ap (λ (ds : List ℕ). ds ++ bytes) (sym first) ∙ h.spelled; ends = h.ends }
]

-- ---- what is there is read

ends_from : (n : ℕ) (rest : List ℕ) → EndsNumber rest → number_from n rest ≡ Some (n, rest)
ends_from n [] ends = refl
ends_from n (byte ∷ bytes) ends = rw ends refl

abbrev IsReadBy : ℕ → List ℕ → Type 0
IsReadBy n digits = n ≤ 999999999 → (rest : List ℕ) → number_of (digits ++ rest) ≡ number_from n rest

read_one : (n : ℕ) → n < 10 → IsReadBy n ((48 + n) ∷ [])
read_one n below short rest = let same : 48 + n - 48 ≡ n = omega arith in rw (digit_is n below, same) refl

read_more : (n : ℕ) (digits : List ℕ) → 10 ≤ n → IsReadBy (n / 10) digits → IsReadBy n (digits ++ (48 + n % 10) ∷ [])
read_more n digits large front short rest =
    let same : 10 * (n / 10) + (48 + n % 10 - 48) ≡ n = omega arith in
    rw append_assoc (front (omega arith) ((48 + n % 10) ∷ rest)
    ∙ rw (digit_is (n % 10) (omega arith), in_range (n / 10) (omega arith) (omega arith), same) refl)

pub number_complete : (text : List ℕ) (n : ℕ) (rest : List ℕ) → IsNumberAt text n rest → number_of text ≡ Some (n, rest)
number_complete text n rest h =
    ap number_of h.spelled ∙ decimal_by_steps IsReadBy read_one read_more n (let s = h.formed in omega arith) h.formed rest ∙ ends_from n rest h.ends

pub no_number : (text : List ℕ) → number_of text ≡ None → HasNoNumber text
no_number text none n rest h = none-some _ (sym none ∙ number_complete text n rest h)

pub one_number : (text : List ℕ) (n m : ℕ) (rest other : List ℕ) → IsNumberAt text n rest → IsNumberAt text m other → (n ≡ m) × (rest ≡ other)
one_number text n m rest other a b =
    parts n m rest other (sym (number_complete text n rest a) ∙ number_complete text m other b)

-- ---- by what was tested

pub nothing_there : (text : List ℕ) → length text < 1 → HasNoNumber text
nothing_there [] short n rest h = no_number [] refl n rest h
nothing_there (byte ∷ bytes) short n rest h = absurd (omega arith)

pub no_digit_there : (text : List ℕ) → 1 ≤ length text → is_digit (get_or text 0 0) ≡ false → HasNoNumber text
no_digit_there [] some other n rest h = absurd (omega arith)
no_digit_there (byte ∷ bytes) some other n rest h = no_number (byte ∷ bytes) (rw other refl) n rest h

pub ends_there : (text : List ℕ) → (length text < 1) ⊎ ((1 ≤ length text) × (is_digit (get_or text 0 0) ≡ false)) → EndsNumber text
ends_there [] either = tt
ends_there (byte ∷ bytes) (inl short) = absurd (omega arith)
ends_there (byte ∷ bytes) (inr both) = both.1

pub stops : (text : List ℕ) (number : ℕ) (rest : List ℕ) → number_from number rest ≡ number_of text →
    (length rest < 1) ⊎ ((1 ≤ length rest) × (is_digit (get_or rest 0 0) ≡ false)) → IsNumberAt text number rest
stops text number rest so_far either = number_sound text number rest (sym so_far ∙ ends_from number rest (ends_there rest either))

pub too_long : (text : List ℕ) (number : ℕ) (rest : List ℕ) → number_from number rest ≡ number_of text → 1 ≤ length rest →
    is_digit (get_or rest 0 0) ≡ true → (number ≡ 0) ⊎ (99999999 < number) → HasNoNumber text
too_long text number [] so_far some digit out = absurd (omega arith)
too_long text number (byte ∷ bytes) so_far some digit out =
    let test : (eqb number 0 || ltb 99999999 number) ≡ true = elim out [ inl h ↦ grind (arith, nat_tests) | inr h ↦ grind (arith, nat_tests) ] in
    no_number text (sym so_far ∙ rw (digit, test) refl)

-- the first digit is read
pub digit_begun : (text : List ℕ) (digit : ℕ) → 1 ≤ length text → is_digit (get_or text 0 0) ≡ true → digit ≡ get_or text 0 0 - 48 →
    (digit ≤ 999999999) × (number_from digit (take (length text - 1) (drop 1 text)) ≡ number_of text)
digit_begun [] digit some is same = absurd (omega arith)
digit_begun (byte ∷ bytes) digit some is same =
    let high = (digit_bounds byte is).1 in
    let step : number_of (byte ∷ bytes) ≡ number_from (byte - 48) bytes = rw is refl in
    (omega arith, ap (number_from digit) (take_rest (byte ∷ bytes) 1) ∙ ap (λ (n : ℕ). number_from n bytes) same ∙ sym step)

-- one more digit is read
pub digit_read : (text : List ℕ) (number digit : ℕ) (rest : List ℕ) → number_from number rest ≡ number_of text → 1 ≤ length rest → is_digit (get_or rest 0 0) ≡ true →
    number ≢ 0 → number ≤ 99999999 → digit ≡ get_or rest 0 0 - 48 →
    (10 * number + digit ≤ 999999999) × (number_from (10 * number + digit) (take (length rest - 1) (drop 1 rest)) ≡ number_of text)
digit_read text number digit [] so_far some is other most same = absurd (omega arith)
digit_read text number digit (byte ∷ bytes) so_far some is other most same =
    let high = (digit_bounds byte is).1 in
    let step : number_from number (byte ∷ bytes) ≡ number_from (10 * number + (byte - 48)) bytes = rw (is, in_range number (omega arith) most) refl in
    (omega arith, ap (number_from (10 * number + digit)) (take_rest (byte ∷ bytes) 1) ∙ ap (λ (n : ℕ). number_from (10 * number + n) bytes) same ∙ sym step ∙ so_far)
