-- The first line of a text, by its length, and the lines that are no comments.
use Rattle.std.proofs.Common.{◌≡◌, ◌≢◌, ◌∙◌, ℕ, suc, ◌+◌, ◌<◌, ◌≤◌, true, false, cond, eqb, List, [], ◌∷◌, length, get_or, drop, take, refl, sym, ap, arith, inl, inr}
use Rattle.std.proofs.lemmas.Bool.{cases_Bool}
use Rattle.std.proofs.lemmas.Bool.Decides.{nat_tests}
use Rattle.std.proofs.lemmas.List.{drop_more, drop_all}
use Rattle.cc_defs.specs.LogTexts.{before_lines, lines_in}
use Rattle.cc_dimacs.specs.CnfTexts.{begins_with}
use Rattle.cc_dimacs.specs.Reading.{told_from}

abbrev pub line_length : List ℕ → ℕ
line_length [] = 0
line_length (byte ∷ bytes) = cond (eqb byte 10) 1 (suc (line_length bytes))

pub length_here : (text : List ℕ) (i : ℕ) → i < length text → i + line_length (drop i text) ≡ line_length text → get_or text i 0 ≡ 10 → i + 1 ≡ line_length text
length_here text i below so_far feed =
    let e : line_length (drop i text) ≡ 1 = ap line_length (drop_more text i 0 below) ∙ rw feed refl in
    ap (λ (k : ℕ). i + k) (sym e) ∙ so_far

pub length_more : (text : List ℕ) (i : ℕ) → i < length text → i + line_length (drop i text) ≡ line_length text → get_or text i 0 ≢ 10 →
    i + 1 + line_length (drop (i + 1) text) ≡ line_length text
length_more text i below so_far other =
    let no_feed : eqb (get_or text i 0) 10 ≡ false = grind (arith, nat_tests) in
    let e : line_length (drop i text) ≡ suc (line_length (drop (i + 1) text)) = ap line_length (drop_more text i 0 below) ∙ rw no_feed refl in
    omega arith

pub length_all : (text : List ℕ) (i : ℕ) → length text ≤ i → i ≤ length text → i + line_length (drop i text) ≡ line_length text → length text ≡ line_length text
length_all text i past within so_far = let e : line_length (drop i text) ≡ 0 = ap line_length (drop_all i text past) in omega arith

line_cut : (text : List ℕ) → 0 < length text → lines_in text ≡ take (line_length text) text ∷ lines_in (drop (line_length text) text)
line_cut [] some = absurd (omega arith)
line_cut (byte ∷ []) some = elim (cases_Bool (eqb byte 10)) [
  | inl feed ↦ rw feed (ap (λ (b : ℕ). (b ∷ []) ∷ []) (let e : 10 ≡ byte = grind (arith, nat_tests) in e))
  | inr other ↦ rw other refl
]
line_cut (byte ∷ next ∷ text) some = elim (cases_Bool (eqb byte 10)) [
  | inl feed ↦ rw feed (ap (λ (b : ℕ). (b ∷ []) ∷ lines_in (next ∷ text)) (let e : 10 ≡ byte = grind (arith, nat_tests) in e))
  | inr other ↦ rw other (ap (before_lines byte) (line_cut (next ∷ text) (omega arith)))
]

pub line_as : (text line rest : List ℕ) (n : ℕ) → 0 < length text → n ≡ line_length text → line ≡ take n text → rest ≡ drop n text → lines_in text ≡ line ∷ lines_in rest
line_as text line rest n some is front back =
    line_cut text some ∙ ap (λ (k : ℕ). take k text ∷ lines_in (drop k text)) (sym is)
    ∙ ap (λ (l : List ℕ). l ∷ lines_in (drop n text)) (sym front) ∙ ap (λ (r : List ℕ). line ∷ lines_in r) (sym back)

-- ---- from line to line

module _ (number : ℕ) (text line behind : List ℕ) (some : 0 < number) (first : lines_in text ≡ line ∷ lines_in behind) where
  pub none_told : begins_with 37 line ≡ true → told_from number text ≡ []
  none_told ends = rw (first, ends) refl

  pub comment_told : begins_with 37 line ≡ false → begins_with 99 line ≡ true → told_from number text ≡ told_from (number + 1) behind
  comment_told goes comment = rw (first, goes, comment) refl

  pub line_told : begins_with 37 line ≡ false → begins_with 99 line ≡ false → told_from number text ≡ (record { number = number; text = line }) ∷ told_from (number + 1) behind
  line_told goes told = rw (first, goes, told) refl
