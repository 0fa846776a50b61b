-- Numbers and literals at the front of bytes.
use Rattle.std.proofs.Common.{◌≡◌, ◌≢◌, ℕ, zero, suc, ◌+◌, ◌-◌, ◌*◌, ◌/◌, ◌%◌, ◌<◌, ◌≤◌, Bool, true, false, List, [], ◌∷◌, ◌++◌, length, eqb, get_or, take, drop, refl, sym, ap, subst, ◌∙◌, arith, inl, inr, ◌⊎◌}
use Rattle.std.proofs.lemmas.Bool.{cases_lt, eqb-true, lt-ltb, le-ltb}
use Rattle.std.proofs.lemmas.Bool.Decides.{nat_tests}
use Rattle.cc_defs.specs.Clauses.{Literal}
use Rattle.cc_defs.specs.LogBytes.{IsNumber, bytes_within, literal_number, number_bytes}
use Rattle.cc_defs.specs.LogTexts.{IsShortLiteral}
use Rattle.cc_log.specs.Entries.{IsNumberWithin, IsLiteralIn, HasNoNumberWithin, most_within}
use Rattle.cc_log.proofs.Signed.{front, same_literal}

-- ---- the bytes of a number

pub small_bytes : (more number : ℕ) → number < 128 → bytes_within more number ≡ number ∷ []
small_bytes zero number below = refl
small_bytes (suc more) number below = rw (lt-ltb number 128 below) refl

pub large_bytes : (more number : ℕ) → 128 ≤ number → bytes_within (suc more) number ≡ (128 + number % 128) ∷ bytes_within more (number / 128)
large_bytes more number above = rw (le-ltb number 128 above) refl

bytes_some : (more number : ℕ) → 1 ≤ length (bytes_within more number)
bytes_some zero number = omega arith
bytes_some (suc more) number = elim (cases_lt number 128) [
  | inl below ↦ let e = ap length (small_bytes (suc more) number below) in omega arith
  | inr above ↦ let e = ap length (large_bytes more number above) in omega arith
]

pub number_some : (number : ℕ) → 1 ≤ length (number_bytes number)
number_some number = bytes_some 4 number

-- the parts of two lists that are equal
pub cells : (x y : ℕ) (xs ys : List ℕ) → x ∷ xs ≡ y ∷ ys → (x ≡ y) × (xs ≡ ys)
cells x y xs ys is = (ap (λ (t : List ℕ). get_or t 0 0) is, ap (λ (t : List ℕ). drop 1 t) is)

-- ---- a number at the front

pub cases_within : (more number : ℕ) (bytes rest : List ℕ) → IsNumberWithin (suc more) bytes number rest →
    ((number < 128) × (bytes ≡ number ∷ rest)) ⊎ ((128 ≤ number) × (bytes ≡ (128 + number % 128) ∷ (bytes_within more (number / 128) ++ rest)))
cases_within more number bytes rest h = elim (cases_lt number 128) [
  | inl below ↦ inl (below, h.spelled ∙ ap (λ (bs : List ℕ). bs ++ rest) (small_bytes (suc more) number below))
  | inr above ↦ inr (above, h.spelled ∙ ap (λ (bs : List ℕ). bs ++ rest) (large_bytes more number above))
]

behind_within : (more number : ℕ) (bytes behind rest : List ℕ) → IsNumberWithin (suc more) bytes number rest → behind ≡ bytes_within more (number / 128) ++ rest →
    IsNumberWithin more behind (number / 128) rest
behind_within more number bytes behind rest h is =
    let formed = h.formed in
    let few = h.few in
    record { formed = omega arith; few = omega arith; spelled = is }

pub one_within : (more : ℕ) (bytes : List ℕ) (n m : ℕ) (rest other : List ℕ) → IsNumberWithin more bytes n rest → IsNumberWithin more bytes m other → (n ≡ m) × (rest ≡ other)
one_within zero bytes n m rest other a b = cells n m rest other (sym a.spelled ∙ b.spelled)
one_within (suc more) bytes n m rest other a b = elim (cases_within more n bytes rest a) [
  | inl (small, x) ↦ elim (cases_within more m bytes other b) [
    | inl (too, y) ↦ cells n m rest other (sym x ∙ y)
    | inr (large, y) ↦
        let first = (cells n (128 + m % 128) rest (bytes_within more (m / 128) ++ other) (sym x ∙ y)).0 in
        absurd (omega arith)
  ]
  | inr (large, x) ↦ elim (cases_within more m bytes other b) [
    | inl (small, y) ↦
        let first = (cells (128 + n % 128) m (bytes_within more (n / 128) ++ rest) other (sym x ∙ y)).0 in
        absurd (omega arith)
    | inr (too, y) ↦
        let both = cells (128 + n % 128) (128 + m % 128) (bytes_within more (n / 128) ++ rest) (bytes_within more (m / 128) ++ other) (sym x ∙ y) in
        let low = both.0 in
        let high =
        one_within more (bytes_within more (n / 128) ++ rest) (n / 128) (m / 128) rest other (behind_within more n bytes (bytes_within more (n / 128) ++ rest) rest a refl)
        (behind_within more m bytes (bytes_within more (n / 128) ++ rest) other b both.1) in
        let part = high.0 in
        (omega arith, high.1)
  ]
]

pub one_number_in : (n m : ℕ) (rest other : List ℕ) → IsNumber n → IsNumber m → number_bytes n ++ rest ≡ number_bytes m ++ other → (n ≡ m) × (rest ≡ other)
one_number_in n m rest other a b is =
    one_within 4 (number_bytes n ++ rest) n m rest other (record { formed = a; few = omega arith; spelled = refl }) (record { formed = b; few = omega arith; spelled = is })

-- ---- by what was tested

-- what is behind a byte with its high bit
pub large_parts : (less byte number : ℕ) (bytes behind rest : List ℕ) → bytes ≡ byte ∷ behind → 128 ≤ byte → IsNumberWithin (suc less) bytes number rest →
    (128 ≤ number) × (byte ≡ 128 + number % 128) × IsNumberWithin less behind (number / 128) rest
large_parts less byte number bytes behind rest front_is large h = elim (cases_within less number bytes rest h) [
  | inl (small, is) ↦ let first = (cells byte number behind rest (sym front_is ∙ is)).0 in absurd (omega arith)
  | inr (many, is) ↦
      let both = cells byte (128 + number % 128) behind (bytes_within less (number / 128) ++ rest) (sym front_is ∙ is) in
      (many, both.0, behind_within less number bytes behind rest h both.1)
]

module _ (less byte : ℕ) (bytes behind : List ℕ) (front_is : bytes ≡ byte ∷ behind) (large : 128 ≤ byte) where
  pub none_behind : HasNoNumberWithin less behind → HasNoNumberWithin (suc less) bytes
  none_behind none number rest h = none (number / 128) rest (large_parts less byte number bytes behind rest front_is large h).2

  pub out_behind : (high : ℕ) (rest : List ℕ) → IsNumberWithin less behind high rest → ((0 < high) × (high ≤ 15624999) → ⊥) → HasNoNumberWithin (suc less) bytes
  out_behind high rest there out number other h =
      let (many, first, back) = large_parts less byte number bytes behind other front_is large h in
      let same = (one_within less behind high (number / 128) rest other there back).0 in
      let formed = h.formed in
      out (omega arith, omega arith)

one_less : (more : ℕ) → more ≢ 0 → suc (more - 1) ≡ more
one_less more some = omega arith

pub within_none : (more : ℕ) (bytes : List ℕ) → more ≢ 0 → 1 ≤ length bytes → 128 ≤ get_or bytes 0 0 →
    HasNoNumberWithin (more - 1) (take (length bytes - 1) (drop 1 bytes)) → HasNoNumberWithin more bytes
within_none more bytes some long large none =
    subst (λ (m : ℕ). HasNoNumberWithin m bytes) (one_less more some)
    (none_behind (more - 1) (get_or bytes 0 0) bytes (take (length bytes - 1) (drop 1 bytes)) (front bytes (get_or bytes 0 0) long refl) large none)

pub within_out : (more : ℕ) (bytes : List ℕ) (high : ℕ) (rest : List ℕ) → more ≢ 0 → 1 ≤ length bytes → 128 ≤ get_or bytes 0 0 →
    IsNumberWithin (more - 1) (take (length bytes - 1) (drop 1 bytes)) high rest → ((0 < high) × (high ≤ 15624999) → ⊥) → HasNoNumberWithin more bytes
within_out more bytes high rest some long large there out =
    subst (λ (m : ℕ). HasNoNumberWithin m bytes) (one_less more some)
    (out_behind (more - 1) (get_or bytes 0 0) bytes (take (length bytes - 1) (drop 1 bytes)) (front bytes (get_or bytes 0 0) long refl) large high rest there out)

least_within : (more : ℕ) → 127 ≤ most_within more
least_within zero = omega arith
least_within (suc more) = let less = least_within more in omega arith

pub within_small : (more number : ℕ) (bytes : List ℕ) → 1 ≤ length bytes → get_or bytes 0 0 < 128 → number ≡ get_or bytes 0 0 →
    IsNumberWithin more bytes number (take (length bytes - 1) (drop 1 bytes))
within_small more number bytes some small is =
    let least = least_within more in
    record {
      formed = omega arith;
      few = omega arith;
      spelled = front bytes number some (sym is) ∙ ap (λ (t : List ℕ). t ++ take (length bytes - 1) (drop 1 bytes)) (sym (small_bytes more number (omega arith)));
    }

large_within : (less high low : ℕ) (bytes rest : List ℕ) → 1 ≤ length bytes → 128 ≤ get_or bytes 0 0 → get_or bytes 0 0 < 256 →
    IsNumberWithin less (take (length bytes - 1) (drop 1 bytes)) high rest → (0 < high) × (high ≤ 15624999) → low ≡ get_or bytes 0 0 - 128 →
    IsNumberWithin (suc less) bytes (128 * high + low) rest
large_within less high low bytes rest some large byte there within is =
    let least = within.0 in
    let most = within.1 in
    let few = there.few in
    let front_is : get_or bytes 0 0 ≡ 128 + (128 * high + low) % 128 = omega arith in
    let high_is : high ≡ (128 * high + low) / 128 = omega arith in
    record {
      formed = omega arith;
      few = omega arith;
      spelled = front bytes (128 + (128 * high + low) % 128) some front_is
          ∙ ap (λ (t : List ℕ). (128 + (128 * high + low) % 128) ∷ t) (there.spelled ∙ ap (λ (n : ℕ). bytes_within less n ++ rest) high_is)
          ∙ ap (λ (t : List ℕ). t ++ rest) (sym (large_bytes less (128 * high + low) (omega arith)));
    }

pub within_large : (more high low : ℕ) (bytes rest : List ℕ) → more ≢ 0 → 1 ≤ length bytes → 128 ≤ get_or bytes 0 0 → get_or bytes 0 0 < 256 →
    IsNumberWithin (more - 1) (take (length bytes - 1) (drop 1 bytes)) high rest → (0 < high) × (high ≤ 15624999) → low ≡ get_or bytes 0 0 - 128 →
    IsNumberWithin more bytes (128 * high + low) rest
within_large more high low bytes rest other some large byte there within is =
    subst (λ (m : ℕ). IsNumberWithin m bytes (128 * high + low) rest) (one_less more other)
    (large_within (more - 1) high low bytes rest some large byte there within is)

-- ---- literals

pub literal_formed : (variable : ℕ) (positive : Bool) → IsShortLiteral (record { variable = variable; positive = positive }) →
    IsNumber (literal_number (record { variable = variable; positive = positive }))
literal_formed variable true h = let most = h.1 in omega arith
literal_formed variable false h = let most = h.1 in omega arith

same_number : (v w : ℕ) (p q : Bool) → literal_number (record { variable = v; positive = p }) ≡ literal_number (record { variable = w; positive = q }) → (v ≡ w) × (p ≡ q)
same_number v w true true is = (omega arith, refl)
same_number v w true false is = absurd (omega arith)
same_number v w false true is = absurd (omega arith)
same_number v w false false is = (omega arith, refl)

one_literal : (a b : Literal) → literal_number a ≡ literal_number b → a ≡ b
one_literal a b is = let h = same_number a.variable b.variable a.positive b.positive is in same_literal a b h.0 h.1

pub one_literal_in : (a b : Literal) (rest other : List ℕ) → IsShortLiteral a → IsShortLiteral b → number_bytes (literal_number a) ++ rest ≡ number_bytes (literal_number b) ++ other →
    (a ≡ b) × (rest ≡ other)
one_literal_in a b rest other x y is =
    let h = one_number_in (literal_number a) (literal_number b) rest other (literal_formed a.variable a.positive x)
    (literal_formed b.variable b.positive y) is in
    (one_literal a b h.0, h.1)

pub literal_within : (bytes : List ℕ) (number : ℕ) (rest : List ℕ) → IsNumberWithin 4 bytes number rest → 2 ≤ number →
    IsLiteralIn bytes (record { variable = number / 2; positive = eqb (number % 2) 0 }) rest
literal_within bytes number rest h large =
    let formed = h.formed in
    record { formed = (omega arith, omega arith); spelled = h.spelled ∙ ap (λ (n : ℕ). number_bytes n ++ rest) (is_of (eqb (number % 2) 0) refl) }
  where
    is_of : (even : Bool) → eqb (number % 2) 0 ≡ even → number ≡ literal_number (record { variable = number / 2; positive = even })
    is_of true is = let e : number % 2 ≡ 0 = eqb-true (number % 2) 0 is in omega arith
    is_of false is = let e : number % 2 ≡ 1 = grind (arith, nat_tests) in omega arith
