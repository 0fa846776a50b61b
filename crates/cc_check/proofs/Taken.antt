-- What is read from the front of bytes, by what stands there.
use Rattle.std.proofs.Common.{◌≡◌, ℕ, zero, suc, ◌+◌, ◌-◌, ◌*◌, ◌/◌, ◌%◌, ◌<◌, ◌≤◌, Bool, true, false, eqb, List, [], ◌∷◌, ◌++◌, Option, Some, None, decimal, length, refl, sym, ap, subst, ◌∙◌, arith, append_assoc, append-nil, flat_map, inl, inr}
use Rattle.std.specs.Prelude.{MatchOption}
use Rattle.std.specs.Borrow.{Bor}
use Rattle.std.specs.List.{AllByRecursion}
use Rattle.std.proofs.lemmas.Bool.{cases_Bool, cases_lt, eqb-true, lt-ltb, le-ltb}
use Rattle.std.proofs.lemmas.Bool.Decides.{nat_tests}
use Rattle.std.proofs.lemmas.Option.{same_Some, none-some}
use Rattle.cc_defs.specs.declared.log.Version.TheVariants.{First, Second}
use Rattle.cc_defs.specs.Clauses.{Literal}
use Rattle.cc_defs.specs.LogBytes.{IsNumber, bytes_within, literal_bytes, literal_number, number_bytes}
use Rattle.cc_defs.specs.LogTexts.{IsShort, IsShortLiteral, literal_text}
use Rattle.cc_log.specs.Entries.{AreLiteralsIn, AreNumbersIn, HasNoLiteralIn, HasNoNumberIn, IsLiteralIn, IsNumberIn, IsNumberWithin}
use Rattle.cc_check.specs.Readers.{as_literal, as_negative, as_positive, entry_number, is_high, list_from, literal_taken, literals_in, number_taken, numbers_in, plain_literal, plain_number, put_first, signed_of, with_low}
use Rattle.cc_log.specs.Fronts.{number_of}
use Rattle.cc_log.specs.Fronts.{AreLiterals, AreNumbers, EndsNumber, HasNoNumber, HasNoSigned, IsNumberAt, IsSignedAt}
use Rattle.cc_log.proofs.NumberBytes.{cases_within, large_bytes, literal_formed, small_bytes}
use Rattle.cc_log.proofs.Numbers.{number_complete, number_sound}
use Rattle.cc_log.proofs.Signed.{negative_signed, number_or_minus, positive_signed, same_literal, signed_cases}

none_from : {X : Type 0} (o : Option (X × List ℕ)) → ((x : X) (rest : List ℕ) → o ≡ Some (x, rest) → ⊥) → o ≡ None
none_from None never = refl
none_from (Some found) never = absurd (never found.0 found.1 refl)

abbrev read : {X : Type 0} → X → List ℕ → Option (X × List ℕ)
read x rest = Some (x, rest)

read_parts : {X : Type 0} (x y : X) (rest other : List ℕ) → read x rest ≡ read y other → (x ≡ y) × (rest ≡ other)
read_parts {X = X} x y rest other is =
    let both = same_Some _ _ is in
    (ap (λ (p : X × List ℕ). p.0) both, ap (λ (p : X × List ℕ). p.1) both)

-- ---- numbers of version 2

high_is : (high : ℕ) → 0 < high → high ≤ 15624999 → is_high high ≡ true
high_is high some most = grind (arith, nat_tests)

high_bounds : (high : ℕ) → is_high high ≡ true → (0 < high) × (high ≤ 15624999)
high_bounds high is = (grind (arith, nat_tests), grind (arith, nat_tests))

pub entry_complete : (more number : ℕ) (bytes rest : List ℕ) → IsNumberWithin more bytes number rest → entry_number more bytes ≡ Some (number, rest)
entry_complete zero number bytes rest h =
    let few = h.few in
    ap (entry_number zero) h.spelled ∙ rw (lt-ltb number 128 (omega arith)) refl
entry_complete (suc more) number bytes rest h = elim (cases_within more number bytes rest h) [
  | inl (small, is) ↦ ap (entry_number (suc more)) is ∙ rw (lt-ltb number 128 small) refl
  | inr (large, is) ↦
      let formed = h.formed in
      let few = h.few in
      let high = entry_complete more (number / 128) (bytes_within more (number / 128) ++ rest) rest (record { formed = omega arith; few = omega arith; spelled = refl }) in
      let whole : 128 * (number / 128) + (128 + number % 128 - 128) ≡ number = omega arith in
      ap (entry_number (suc more)) is
      ∙ rw (le-ltb (128 + number % 128) 128 (omega arith), lt-ltb (128 + number % 128) 256 (omega arith), high, high_is (number / 128) (omega arith) (omega arith), whole) refl
]

small_there : (more byte : ℕ) (bytes : List ℕ) → byte < 128 → IsNumberWithin more (byte ∷ bytes) byte bytes
small_there zero byte bytes below = record { formed = omega arith; few = omega arith; spelled = refl }
small_there (suc more) byte bytes below =
    record { formed = omega arith; few = omega arith; spelled = ap (λ (t : List ℕ). t ++ bytes) (sym (small_bytes (suc more) byte below)) }

large_there : (more byte high : ℕ) (bytes rest : List ℕ) → 128 ≤ byte → byte < 256 → 0 < high → high ≤ 15624999 → IsNumberWithin more bytes high rest →
    IsNumberWithin (suc more) (byte ∷ bytes) (128 * high + (byte - 128)) rest
large_there more byte high bytes rest large below some most h =
    let few = h.few in
    let front : 128 + (128 * high + (byte - 128)) % 128 ≡ byte = omega arith in
    let behind : (128 * high + (byte - 128)) / 128 ≡ high = omega arith in
    let whole : bytes_within (suc more) (128 * high + (byte - 128)) ≡ byte ∷ bytes_within more high =
    large_bytes more (128 * high + (byte - 128)) (omega arith) ∙ rw (front, behind) refl in
    record {
      formed = omega arith;
      few = omega arith;
      spelled = ap (λ (t : List ℕ). byte ∷ t) h.spelled
          ∙ ap (λ (t : List ℕ). t ++ rest) (sym whole);
    }

low_parts : (low : ℕ) (o : Option (ℕ × List ℕ)) (number : ℕ) (rest : List ℕ) → with_low low o ≡ Some (number, rest) →
    (high : ℕ) × (o ≡ Some (high, rest)) × (is_high high ≡ true) × (128 * high + low ≡ number)
low_parts low None number rest is = absurd (none-some _ is)
low_parts low (Some found) number rest is = elim (cases_Bool (is_high found.0)) [
  | inr out ↦ let none : None ≡ Some (number, rest) = rw out at is in absurd (none-some _ none)
  | inl fits ↦
      let some : read (128 * found.0 + low) found.1 ≡ read number rest = rw fits at is in
      let both = read_parts (128 * found.0 + low) number found.1 rest some in
      (found.0, ap (λ (r : List ℕ). Some (found.0, r)) both.1, fits, both.0)
]

pub entry_sound : (more : ℕ) (bytes : List ℕ) (number : ℕ) (rest : List ℕ) → entry_number more bytes ≡ Some (number, rest) → IsNumberWithin more bytes number rest
entry_sound zero [] number rest is = absurd (none-some _ is)
entry_sound (suc more) [] number rest is = absurd (none-some _ is)
entry_sound zero (byte ∷ bytes) number rest is = elim (cases_lt byte 128) [
  | inr above ↦ let none : None ≡ Some (number, rest) = rw (le-ltb byte 128 above) at is in absurd (none-some _ none)
  | inl below ↦
      let some : read byte bytes ≡ read number rest = rw (lt-ltb byte 128 below) at is in
      let both = read_parts byte number bytes rest some in
      subst (λ (n : ℕ). IsNumberWithin zero (byte ∷ bytes) n rest) both.0 (subst (λ (r : List ℕ). IsNumberWithin zero (byte ∷ bytes) byte r) both.1 (small_there zero byte bytes below))
]
entry_sound (suc more) (byte ∷ bytes) number rest is = elim (cases_lt byte 128) [
  | inl below ↦
      let some : read byte bytes ≡ read number rest = rw (lt-ltb byte 128 below) at is in
      let both = read_parts byte number bytes rest some in
      subst (λ (n : ℕ). IsNumberWithin (suc more) (byte ∷ bytes) n rest) both.0 (subst (λ (r : List ℕ). IsNumberWithin (suc more) (byte ∷ bytes) byte r) both.1 (small_there (suc more) byte bytes below))
  | inr above ↦ elim (cases_lt byte 256) [
    | inr past ↦ let none : None ≡ Some (number, rest) = rw (le-ltb byte 128 above, le-ltb byte 256 past) at is in absurd (none-some _ none)
    | inl fits ↦
        let some : with_low (byte - 128) (entry_number more bytes) ≡ Some (number, rest) = rw (le-ltb byte 128 above, lt-ltb byte 256 fits) at is in
        let (high, there, is_one, same) = low_parts (byte - 128) (entry_number more bytes) number rest some in
        let bounds = high_bounds high is_one in
        subst (λ (n : ℕ). IsNumberWithin (suc more) (byte ∷ bytes) n rest) same
        (large_there more byte high bytes rest above fits bounds.0 bounds.1 (entry_sound more bytes high rest there))
  ]
]

pub entry_plain : (bytes : List ℕ) (r : Option (ℕ × Bor (List ℕ))) → MatchOption r (HasNoNumberIn bytes) (λ read. IsNumberIn bytes read.0 read.1.now) →
    plain_number r ≡ entry_number 4 bytes
entry_plain bytes None h = sym (none_from (entry_number 4 bytes) (λ number rest is. h number rest (entry_sound 4 bytes number rest is)))
entry_plain bytes (Some read) h = sym (entry_complete 4 read.0 bytes read.1.now h)

-- ---- numbers of version 1

pub number_plain : (text : List ℕ) (r : Option (ℕ × Bor (List ℕ))) → MatchOption r (HasNoNumber text) (λ read. IsNumberAt text read.0 read.1.now) →
    plain_number r ≡ number_of text
number_plain text None h = sym (none_from (number_of text) (λ number rest is. h number rest (number_sound text number rest is)))
number_plain text (Some read) h = sym (number_complete text read.0 read.1.now h)

-- ---- literals of version 2

literal_back : (v : ℕ) (positive : Bool) (rest : List ℕ) → 0 < v →
    as_literal (Some (literal_number (record { variable = v; positive = positive }), rest)) ≡ Some (record { variable = v; positive = positive }, rest)
literal_back v true rest some =
    let half : 2 * v / 2 ≡ v = omega arith in
    let even : 2 * v % 2 ≡ 0 = omega arith in
    rw (le-ltb (2 * v) 2 (omega arith), half, even) refl
literal_back v false rest some =
    let half : (2 * v + 1) / 2 ≡ v = omega arith in
    let odd : (2 * v + 1) % 2 ≡ 1 = omega arith in
    rw (le-ltb (2 * v + 1) 2 (omega arith), half, odd) refl

pub literal_complete : (bytes : List ℕ) (literal : Literal) (rest : List ℕ) → IsLiteralIn bytes literal rest → as_literal (entry_number 4 bytes) ≡ Some (literal, rest)
literal_complete bytes literal rest h =
    let formed = literal_formed literal.variable literal.positive h.formed in
    ap as_literal (entry_complete 4 (literal_number literal) bytes rest (record { formed = formed; few = omega arith; spelled = h.spelled }))
    ∙ literal_back literal.variable literal.positive rest h.formed.0

literal_said : (number : ℕ) → 2 ≤ number → literal_number (record { variable = number / 2; positive = eqb (number % 2) 0 }) ≡ number
literal_said number some = elim (cases_Bool (eqb (number % 2) 0)) [
  | inl even ↦ let zero_is = eqb-true (number % 2) 0 even in rw even (omega arith)
  | inr odd ↦ let one_is : number % 2 ≡ 1 = grind (arith, nat_tests) in rw odd (omega arith)
]

literal_there : (bytes : List ℕ) (number : ℕ) (rest : List ℕ) → IsNumberWithin 4 bytes number rest → 2 ≤ number →
    IsLiteralIn bytes (record { variable = number / 2; positive = eqb (number % 2) 0 }) rest
literal_there bytes number rest h some =
    let formed = h.formed in
    record {
      formed = (omega arith, omega arith);
      spelled = h.spelled ∙ ap (λ (n : ℕ). number_bytes n ++ rest) (sym (literal_said number some));
    }

literal_sound : (bytes : List ℕ) (o : Option (ℕ × List ℕ)) (literal : Literal) (rest : List ℕ) → o ≡ entry_number 4 bytes → as_literal o ≡ Some (literal, rest) →
    IsLiteralIn bytes literal rest
literal_sound bytes None literal rest same is = absurd (none-some _ is)
literal_sound bytes (Some found) literal rest same is = elim (cases_lt found.0 2) [
  | inl few ↦ let none : None ≡ Some (literal, rest) = rw (lt-ltb found.0 2 few) at is in absurd (none-some _ none)
  | inr some ↦
      let read_is : read {X = Literal} (record { variable = found.0 / 2; positive = eqb (found.0 % 2) 0 }) found.1 ≡ read literal rest = rw (le-ltb found.0 2 some) at is in
      let both = read_parts _ literal found.1 rest read_is in
      subst (λ (l : Literal). IsLiteralIn bytes l rest) both.0
      (subst (λ (r : List ℕ). IsLiteralIn bytes (record { variable = found.0 / 2; positive = eqb (found.0 % 2) 0 }) r) both.1
      (literal_there bytes found.0 found.1 (entry_sound 4 bytes found.0 found.1 (sym same)) some))
]

pub literal_plain : (bytes : List ℕ) (r : Option (ℕ × Bool × Bor (List ℕ))) →
    MatchOption r (HasNoLiteralIn bytes) (λ read. IsLiteralIn bytes (record { variable = read.0; positive = read.1 }) read.2.now) →
    plain_literal r ≡ as_literal (entry_number 4 bytes)
literal_plain bytes None h = sym (none_from (as_literal (entry_number 4 bytes)) (λ literal rest is. h literal rest (literal_sound bytes (entry_number 4 bytes) literal rest refl is)))
literal_plain bytes (Some read) h = sym (literal_complete bytes (record { variable = read.0; positive = read.1 }) read.2.now h)

-- ---- literals of version 1

pub signed_complete : (text : List ℕ) (literal : Literal) (rest : List ℕ) → IsSignedAt text literal rest → signed_of text ≡ Some (literal, rest)
signed_complete text literal rest h = elim (signed_cases text literal rest h) [
  | inl (positive, number) ↦ plus text literal rest positive number
  | inr (behind, is, negative, some, number) ↦
      let other : eqb literal.variable 0 ≡ false = grind (arith, nat_tests) in
      let same = same_literal (record { variable = literal.variable; positive = false }) literal refl (sym negative) in
      ap signed_of is ∙ ap as_negative (number_complete behind literal.variable rest number)
      ∙ rw other (ap (λ (l : Literal). Some (l, rest)) same)
]
  where
    plus : (t : List ℕ) (l : Literal) (r : List ℕ) → l.positive ≡ true → IsNumberAt t l.variable r → signed_of t ≡ Some (l, r)
    plus [] l r positive number = absurd (none-some _ (number_complete [] l.variable r number))
    plus (byte ∷ bytes) l r positive number = elim (cases_Bool (eqb byte 45)) [
      | inl minus ↦ absurd (number_or_minus bytes l.variable r (subst (λ (b : ℕ). IsNumberAt (b ∷ bytes) l.variable r) (eqb-true byte 45 minus) number))
      | inr other ↦
          let same = same_literal (record { variable = l.variable; positive = true }) l refl (sym positive) in
          rw other (ap as_positive (number_complete (byte ∷ bytes) l.variable r number) ∙ ap (λ (x : Literal). Some (x, r)) same)
    ]

positive_parts : (o : Option (ℕ × List ℕ)) (literal : Literal) (rest : List ℕ) → as_positive o ≡ Some (literal, rest) →
    (o ≡ Some (literal.variable, rest)) × (literal.positive ≡ true)
positive_parts None literal rest is = absurd (none-some _ is)
positive_parts (Some found) literal rest is =
    let both = read_parts (record { variable = found.0; positive = true }) literal found.1 rest is in
    (ap (λ (l : Literal). Some (l.variable, found.1)) both.0 ∙ ap (λ (r : List ℕ). Some (literal.variable, r)) both.1, ap (λ (l : Literal). l.positive) (sym both.0))

negative_parts : (o : Option (ℕ × List ℕ)) (literal : Literal) (rest : List ℕ) → as_negative o ≡ Some (literal, rest) →
    (o ≡ Some (literal.variable, rest)) × (literal.positive ≡ false) × (0 < literal.variable)
negative_parts None literal rest is = absurd (none-some _ is)
negative_parts (Some found) literal rest is = elim (cases_Bool (eqb found.0 0)) [
  | inl nil ↦ let none : None ≡ Some (literal, rest) = rw nil at is in absurd (none-some _ none)
  | inr other ↦
      let some : read {X = Literal} (record { variable = found.0; positive = false }) found.1 ≡ read literal rest = rw other at is in
      let both = read_parts (record { variable = found.0; positive = false }) literal found.1 rest some in
      let above : 0 < found.0 = grind (arith, nat_tests) in (
        ap (λ (l : Literal). Some (l.variable, found.1)) both.0 ∙ ap (λ (r : List ℕ). Some (literal.variable, r)) both.1,
        ap (λ (l : Literal). l.positive) (sym both.0),
        subst (λ (l : Literal). 0 < l.variable) both.0 above,
      )
]

pub signed_sound : (text : List ℕ) (literal : Literal) (rest : List ℕ) → signed_of text ≡ Some (literal, rest) → IsSignedAt text literal rest
signed_sound [] literal rest is = absurd (none-some _ is)
signed_sound (byte ∷ bytes) literal rest is = elim (cases_Bool (eqb byte 45)) [
  | inl minus ↦
      let some : as_negative (number_of bytes) ≡ Some (literal, rest) = rw minus at is in
      let (there, negative, above) = negative_parts (number_of bytes) literal rest some in
      subst (λ (b : ℕ). IsSignedAt (b ∷ bytes) literal rest) (sym (eqb-true byte 45 minus))
      (negative_signed bytes literal rest negative above (number_sound bytes literal.variable rest there))
  | inr other ↦
      let some : as_positive (number_of (byte ∷ bytes)) ≡ Some (literal, rest) = rw other at is in
      let (there, positive) = positive_parts (number_of (byte ∷ bytes)) literal rest some in
      positive_signed (byte ∷ bytes) literal rest positive (number_sound (byte ∷ bytes) literal.variable rest there)
]

pub signed_plain : (text : List ℕ) (r : Option (ℕ × Bool × Bor (List ℕ))) →
    MatchOption r (HasNoSigned text) (λ read. IsSignedAt text (record { variable = read.0; positive = read.1 }) read.2.now) → plain_literal r ≡ signed_of text
signed_plain text None h = sym (none_from (signed_of text) (λ literal rest is. h literal rest (signed_sound text literal rest is)))
signed_plain text (Some read) h = sym (signed_complete text (record { variable = read.0; positive = read.1 }) read.2.now h)

-- ---- lists

module _ {X : Type 0} (Is : X → Type 0) (written : X → List ℕ) (taken : List ℕ → Option (X × List ℕ)) (Ends : List ℕ → Type 0)
    (complete : (x : X) (rest : List ℕ) → Is x → Ends rest → taken (written x ++ rest) ≡ Some (x, rest)) (ends : (x : X) (rest : List ℕ) → Ends (written x ++ rest)) where
  ends_all : (xs : List X) (rest : List ℕ) → Ends rest → Ends (flat_map written xs ++ rest)
  ends_all [] rest h = h
  ends_all (x ∷ xs) rest h = subst Ends (sym (append_assoc (written x) (flat_map written xs) rest)) (ends x (flat_map written xs ++ rest))

  pub front_is : (xs ys : List X) (rest : List ℕ) → AllByRecursion Is (xs ++ ys) → Ends rest → list_from taken (length xs) (flat_map written (xs ++ ys) ++ rest) ≡ xs
  front_is [] ys rest all h = refl
  front_is (x ∷ xs) ys rest all h =
      ap (λ (o : Option (X × List ℕ)). put_first o (list_from taken (length xs)))
      (ap taken (append_assoc (written x) (flat_map written (xs ++ ys)) rest) ∙ complete x (flat_map written (xs ++ ys) ++ rest) all.0 (ends_all (xs ++ ys) rest h))
      ∙ ap (λ (zs : List X). x ∷ zs) (front_is xs ys rest all.1 h)

  pub whole_is : (xs : List X) (rest : List ℕ) → AllByRecursion Is xs → Ends rest → list_from taken (length xs) (flat_map written xs ++ rest) ≡ xs
  whole_is xs rest all h =
      ap (λ (zs : List X). list_from taken (length xs) (flat_map written zs ++ rest)) (sym (append-nil xs))
      ∙ front_is xs [] rest (subst (AllByRecursion Is) (sym (append-nil xs)) all) h

pub entry_numbers : (count : ℕ) (bytes numbers rest : List ℕ) → AreNumbersIn count bytes numbers rest → numbers_in Second count bytes ≡ numbers
entry_numbers count bytes numbers rest h =
    ap (λ (k : ℕ). numbers_in Second k bytes) (sym h.counted) ∙ ap (numbers_in Second (length numbers)) h.spelled
    ∙ whole_is IsNumber number_bytes (number_taken Second) (λ _. Unit {0})
    (λ number behind one _. entry_complete 4 number (number_bytes number ++ behind) behind (record { formed = one; few = omega arith; spelled = refl }))
    (λ _ _. tt) numbers rest h.formed tt

pub entry_literals : (count : ℕ) (bytes : List ℕ) (literals : List Literal) (rest : List ℕ) → AreLiteralsIn count bytes literals rest → literals_in Second count bytes ≡ literals
entry_literals count bytes literals rest h =
    ap (λ (k : ℕ). literals_in Second k bytes) (sym h.counted) ∙ ap (literals_in Second (length literals)) h.spelled
    ∙ whole_is IsShortLiteral literal_bytes (literal_taken Second) (λ _. Unit {0})
    (λ literal behind one _. literal_complete (literal_bytes literal ++ behind) literal behind (record { formed = one; spelled = refl }))
    (λ _ _. tt) literals rest h.formed tt

pub numbers_there : (count : ℕ) (bytes numbers rest : List ℕ) → AreNumbersIn count bytes numbers rest → AreNumbersIn count bytes (numbers_in Second count bytes) rest
numbers_there count bytes numbers rest h = subst (λ (ns : List ℕ). AreNumbersIn count bytes ns rest) (sym (entry_numbers count bytes numbers rest h)) h

pub literals_there : (count : ℕ) (bytes : List ℕ) (literals : List Literal) (rest : List ℕ) → AreLiteralsIn count bytes literals rest →
    AreLiteralsIn count bytes (literals_in Second count bytes) rest
literals_there count bytes literals rest h = subst (λ (ls : List Literal). AreLiteralsIn count bytes ls rest) (sym (entry_literals count bytes literals rest h)) h

pub text_front : (text chain others : List ℕ) → AreNumbers text (chain ++ others) → numbers_in First (length chain) text ≡ chain
text_front text chain others h =
    ap (numbers_in First (length chain)) h.spelled
    ∙ front_is IsShort (λ number. 32 ∷ decimal number) (number_taken First) EndsNumber
    (λ number behind one ends. number_complete (decimal number ++ behind) number behind (record { formed = one; spelled = refl; ends = ends }))
    (λ number behind. refl) chain others (10 ∷ []) h.short refl

pub text_literals : (text : List ℕ) (literals : List Literal) (rest : List ℕ) → AreLiterals text literals rest → literals_in First (length literals) text ≡ literals
text_literals text literals rest h =
    ap (literals_in First (length literals)) h.spelled
    ∙ whole_is IsShortLiteral (λ literal. 32 ∷ literal_text literal) (literal_taken First) EndsNumber
    (λ literal behind one ends. signed_complete (literal_text literal ++ behind) literal behind
    (record { formed = one.1; some = λ _. one.0; spelled = refl; ends = ends }))
    (λ literal behind. refl) literals (32 ∷ 48 ∷ rest) h.formed refl
