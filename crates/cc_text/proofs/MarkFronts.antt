-- What each mark has.
use Rattle.std.proofs.Common.{◌≡◌, ℕ, zero, suc, ◌+◌, ◌<◌, ◌≤◌, Bool, true, false, not, nat_le, ◌||◌, ◌&&◌, cond, eqb, leb, List, [], ◌∷◌, ◌++◌, length, get_or, take, drop, Option, Some, None, refl, sym, ap, subst, ◌∙◌, arith, inl, inr, ◌⊎◌}
use Rattle.std.specs.List.{list_all, find}
use Rattle.std.specs.Option.{option_map}
use Rattle.std.specs.Cmp.Lexicographic.{pointwise, same_text}
use Rattle.std.proofs.lemmas.Bool.{leb-true, leb-false, lt-leb}
use Rattle.std.proofs.lemmas.List.{length-take-le}
use Rattle.cc_defs.specs.declared.token.Mark.{Mark}
use Rattle.cc_defs.specs.Tokens.{mark_texts, mark_of}
use Rattle.cc_text.specs.Fronts.{IsMarkFront, NoMark}
use Rattle.cc_text.proofs.Gaps.{bool_cases, both}

abbrev find_text : List ℕ → List (List ℕ × Mark) → Option (List ℕ × Mark)
find_text bytes entries = find (λ entry. pointwise eqb entry.0 bytes) entries

-- bytes that lack what each text has are none of them
found_none : (has : List ℕ → Bool) (bytes : List ℕ) (entries : List (List ℕ × Mark)) → list_all (λ entry. has entry.0) entries ≡ true → has bytes ≡ false
    → find_text bytes entries ≡ None
found_none has bytes [] all lacks = refl
found_none has bytes (entry ∷ entries) all lacks =
    let p = both (has entry.0) (list_all (λ entry. has entry.0) entries) all in
    elim (bool_cases (pointwise eqb entry.0 bytes)) [
      | inl e ↦ absurd (let same : entry.0 ≡ bytes = same_text entry.0 bytes (sym e) in let f : has bytes ≡ true = ap has (sym same) ∙ p.0 in cc)
      | inr e ↦ rw e (found_none has bytes entries p.1 lacks)
    ]

pub mark_lacks : (has : List ℕ → Bool) (bytes : List ℕ) → list_all (λ entry. has entry.0) mark_texts ≡ true → has bytes ≡ false → mark_of bytes ≡ None
mark_lacks has bytes all lacks = ap (option_map (λ entry. entry.1)) (found_none has bytes mark_texts all lacks)

pub mark_has : (has : List ℕ → Bool) (bytes : List ℕ) (mark : Mark) → list_all (λ entry. has entry.0) mark_texts ≡ true → mark_of bytes ≡ Some mark → has bytes ≡ true
mark_has has bytes mark all e =
    elim (bool_cases (has bytes)) [
      | inl h ↦ h
      | inr h ↦ absurd (let none = mark_lacks has bytes all h in cc)
    ]

abbrev at_most_three : List ℕ → Bool
at_most_three bytes = nat_le (length bytes) 3

long_is_none : (bytes : List ℕ) → 3 < length bytes → mark_of bytes ≡ None
long_is_none bytes lt = mark_lacks at_most_three bytes refl (lt-leb (length bytes) 3 lt)

-- no mark where none has three bytes or fewer
pub mark_longest : (text : List ℕ) (count : ℕ) → ((more : ℕ) → count < more → more ≤ 3 → more ≤ length text → mark_of (take more text) ≡ None)
    → (more : ℕ) → count < more → more ≤ length text → mark_of (take more text) ≡ None
mark_longest text count few more lt le =
    elim (bool_cases (leb more 3)) [
      | inl e ↦ few more lt (leb-true more 3 e) le
      | inr e ↦ long_is_none (take more text) (let f = leb-false more 3 e in omega (arith, length-take-le more text le))
    ]

pub first_one : (text : List ℕ) → 1 ≤ length text → take 1 text ≡ get_or text 0 0 ∷ []
first_one [] le = absurd (omega arith)
first_one (a ∷ text) le = refl

pub first_two : (text : List ℕ) → 2 ≤ length text → take 2 text ≡ get_or text 0 0 ∷ get_or text 1 0 ∷ []
first_two [] le = absurd (omega arith)
first_two (a ∷ []) le = absurd (omega arith)
first_two (a ∷ b ∷ text) le = refl

pub first_three : (text : List ℕ) → 3 ≤ length text → take 3 text ≡ get_or text 0 0 ∷ get_or text 1 0 ∷ get_or text 2 0 ∷ []
first_three [] le = absurd (omega arith)
first_three (a ∷ []) le = absurd (omega arith)
first_three (a ∷ b ∷ []) le = absurd (omega arith)
first_three (a ∷ b ∷ c ∷ text) le = refl

-- the first three bytes, if there are so many, are no mark
abbrev pub NotThree : List ℕ → Type 0
NotThree text = 3 ≤ length text → mark_of (take 3 text) ≡ None

abbrev pub NotTwo : List ℕ → Type 0
NotTwo text = 2 ≤ length text → mark_of (take 2 text) ≡ None

above_two : (text : List ℕ) → NotThree text → (more : ℕ) → 2 < more → more ≤ 3 → more ≤ length text → mark_of (take more text) ≡ None
above_two text three more lt le within =
    let e : 3 ≡ more = omega arith in
    subst (λ (n : ℕ). n ≤ length text → mark_of (take n text) ≡ None) e three within

above_one : (text : List ℕ) → NotThree text → NotTwo text → (more : ℕ) → 1 < more → more ≤ 3 → more ≤ length text → mark_of (take more text) ≡ None
above_one text three two more lt le within =
    elim (bool_cases (leb more 2)) [
      | inl e ↦ let same : 2 ≡ more = (let f = leb-true more 2 e in omega arith) in subst (λ (n : ℕ). n ≤ length text → mark_of (take n text) ≡ None) same two within
      | inr e ↦ above_two text three more (leb-false more 2 e) le within
    ]

pub three_front : (text : List ℕ) (mark : Mark) → 3 ≤ length text → mark_of (take 3 text) ≡ Some mark → IsMarkFront text mark 3
three_front text mark le e = record {
  within = le;
  mark_is = e;
  longest = mark_longest text 3 (λ more lt le _. absurd (omega arith));
}

pub two_front : (text : List ℕ) (mark : Mark) → NotThree text → 2 ≤ length text → mark_of (take 2 text) ≡ Some mark → IsMarkFront text mark 2
two_front text mark three le e = record {
  within = le;
  mark_is = e;
  longest = mark_longest text 2 (above_two text three);
}

pub one_front : (text : List ℕ) (mark : Mark) → NotThree text → NotTwo text → 1 ≤ length text → mark_of (take 1 text) ≡ Some mark → IsMarkFront text mark 1
one_front text mark three two le e = record {
  within = le;
  mark_is = e;
  longest = mark_longest text 1 (above_one text three two);
}

-- no mark at the front
pub no_front : (text : List ℕ) → NotThree text → NotTwo text → (1 ≤ length text → mark_of (take 1 text) ≡ None) → NoMark text
no_front text three two one zero le = refl
no_front text three two one (suc zero) le = one le
no_front text three two one (suc (suc more)) le =
    mark_longest text 1 (above_one text three two) (suc (suc more)) (omega arith) le
