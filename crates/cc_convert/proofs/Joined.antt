-- The bytes of a log are its texts, one behind the other.
use Rattle.std.proofs.Common.{◌≡◌, ◌∙◌, ℕ, suc, ◌+◌, ◌≤◌, ◌==◌, inl, inr, List, [], ◌∷◌, ◌++◌, length, length-append, refl, sym, ap, arith, append_assoc}
use Rattle.std.proofs.lemmas.Bool.{cases_Bool, eqb-true}
use Rattle.cc_defs.specs.LogBytes.{AreEntries}
use Rattle.cc_defs.specs.LogTexts.{before_lines, lines_in}
use Rattle.cc_check.proofs.FirstTexts.{entry_some}

abbrev pub joined : List (List ℕ) → List ℕ
joined [] = []
joined (text ∷ texts) = text ++ joined texts

pub joined_both : (xs ys : List (List ℕ)) → joined (xs ++ ys) ≡ joined xs ++ joined ys
joined_both [] ys = refl
joined_both (x ∷ xs) ys = ap (λ (t : List ℕ). x ++ t) (joined_both xs ys) ∙ sym (append_assoc x (joined xs) (joined ys))

pub both_long : (xs ys : List (List ℕ)) → length (joined (xs ++ ys)) ≡ length (joined xs) + length (joined ys)
both_long xs ys = ap length (joined_both xs ys) ∙ length-append (joined xs) (joined ys)

-- ---- version 1

before_joined : (byte : ℕ) (texts : List (List ℕ)) → joined (before_lines byte texts) ≡ byte ∷ joined texts
before_joined byte [] = refl
before_joined byte (text ∷ texts) = refl

before_few : (byte : ℕ) (texts : List (List ℕ)) → length (before_lines byte texts) ≤ length texts + 1
before_few byte [] = omega arith
before_few byte (text ∷ texts) = omega arith

pub lines_joined : (bytes : List ℕ) → joined (lines_in bytes) ≡ bytes
lines_joined [] = refl
lines_joined (byte ∷ bytes) = elim (cases_Bool (byte == 10)) [
  | inl feed ↦ rw (eqb-true byte 10 feed) (ap (λ (t : List ℕ). 10 ∷ t) (lines_joined bytes))
  | inr other ↦ rw other (before_joined byte (lines_in bytes) ∙ ap (λ (t : List ℕ). byte ∷ t) (lines_joined bytes))
]

pub lines_few : (bytes : List ℕ) → length (lines_in bytes) ≤ length bytes
lines_few [] = omega arith
lines_few (byte ∷ bytes) =
    let more = lines_few bytes in
    elim (cases_Bool (byte == 10)) [
      | inl feed ↦ rw (eqb-true byte 10 feed) (omega arith)
      | inr other ↦ rw other (let one = before_few byte (lines_in bytes) in omega arith)
    ]

-- ---- version 2

pub entries_joined : (bytes : List ℕ) (texts : List (List ℕ)) → AreEntries bytes texts → joined texts ≡ bytes
entries_joined bytes [] are = sym are
entries_joined bytes (text ∷ texts) (inl (line, is, (rest, parts, are))) = ap (λ (t : List ℕ). text ++ t) (entries_joined rest texts are) ∙ sym parts
entries_joined bytes (text ∷ texts) (inr (none, some, same, last)) = ap joined (ap (λ (ts : List (List ℕ)). text ∷ ts) last) ∙ alone text ∙ same where
  alone : (t : List ℕ) → t ++ [] ≡ t
  alone [] = refl
  alone (x ∷ t) = ap (λ (u : List ℕ). x ∷ u) (alone t)

nothing_else : (bytes : List ℕ) → length bytes ≡ 0 → bytes ≡ []
nothing_else [] nil = refl
nothing_else (byte ∷ bytes) nil = absurd (omega arith)

pub entries_few : (bytes : List ℕ) (texts : List (List ℕ)) → AreEntries bytes texts → length texts ≤ length bytes
entries_few bytes [] are = omega arith
entries_few bytes (text ∷ texts) (inl (line, is, (rest, parts, are))) =
    let more = entries_few rest texts are in
    let some = entry_some text line is in
    let both = ap length parts ∙ length-append text rest in
    omega arith
entries_few bytes (text ∷ texts) (inr (none, some, same, last)) =
    let one : length texts ≡ 0 = ap length last in
    longer bytes some where
      longer : (b : List ℕ) → (b ≡ [] → ⊥) → suc (length texts) ≤ length b
      longer [] other = absurd (other refl)
      longer (byte ∷ b) other = let one : length texts ≡ 0 = ap length last in omega arith
