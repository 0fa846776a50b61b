-- The first line of a text, by its length.
use Rattle.std.proofs.Common.{◌≡◌, ◌≢◌, ℕ, suc, ◌+◌, ◌<◌, ◌≤◌, false, cond, eqb, List, [], ◌∷◌, length, get_or, drop, take, refl, sym, ap, subst, ◌∙◌, arith, inl, inr, ◌⊎◌}
use Rattle.std.proofs.lemmas.Bool.{cases_Bool, eqb-true}
use Rattle.std.proofs.lemmas.Bool.Decides.{nat_tests}
use Rattle.std.proofs.lemmas.List.{drop_more, drop_all, take-append-drop}
use Rattle.cc_defs.specs.LogTexts.{lines_in}
use Rattle.cc_check.specs.Texts.{EndsLine, IsFirstLine}

abbrev pub line_length : List ℕ → ℕ
line_length [] = 0
line_length (byte ∷ bytes) = cond (eqb byte 10) 1 (suc (line_length bytes))

pub length_here : (text : List ℕ) (i : ℕ) → i < length text → i + line_length (drop i text) ≡ line_length text → get_or text i 0 ≡ 10 → i + 1 ≡ line_length text
length_here text i below so_far feed =
    let e : line_length (drop i text) ≡ 1 = ap line_length (drop_more text i 0 below) ∙ rw feed refl in
    ap (λ (k : ℕ). i + k) (sym e) ∙ so_far

pub length_more : (text : List ℕ) (i : ℕ) → i < length text → i + line_length (drop i text) ≡ line_length text → get_or text i 0 ≢ 10 →
    i + 1 + line_length (drop (i + 1) text) ≡ line_length text
length_more text i below so_far other =
    let no_feed : eqb (get_or text i 0) 10 ≡ false = grind (arith, nat_tests) in
    let e : line_length (drop i text) ≡ suc (line_length (drop (i + 1) text)) = ap line_length (drop_more text i 0 below) ∙ rw no_feed refl in
    omega arith

pub length_all : (text : List ℕ) (i : ℕ) → length text ≤ i → i ≤ length text → i + line_length (drop i text) ≡ line_length text → length text ≡ line_length text
length_all text i past within so_far =
    let e : line_length (drop i text) ≡ 0 = ap line_length (drop_all i text past) in
    omega arith

-- what the first line is, by its length
pub record Cut (text line rest : List ℕ) : Type 0 where
  pub lines : lines_in text ≡ line ∷ lines_in rest
  pub some : 0 < length line
  pub alone : lines_in line ≡ line ∷ []
  pub ends : (rest ≡ []) ⊎ EndsLine line

line_more : (byte : ℕ) (text line rest : List ℕ) → eqb byte 10 ≡ false → Cut text line rest → Cut (byte ∷ text) (byte ∷ line) rest
line_more byte text line rest other h = record {
  lines = rw (other, h.lines) refl;
  some = omega arith;
  alone = rw (other, h.alone) refl;
  ends = elim h.ends [
    | inl nil ↦ inl nil
    | inr whole ↦ inr (λ behind. rw (other, whole behind, h.alone) refl)
  ];
}

-- where the text goes on
cut_none : (byte : ℕ) → eqb byte 10 ≡ false → Cut (byte ∷ []) (byte ∷ []) []
cut_none byte other = record { lines = rw other refl; some = omega arith; alone = rw other refl; ends = inl refl }

pub cut : (text : List ℕ) → 0 < length text → Cut text (take (line_length text) text) (drop (line_length text) text)
cut [] some = absurd (omega arith)
cut (byte ∷ []) some = elim (cases_Bool (eqb byte 10)) [
  | inl feed ↦ rw (eqb-true byte 10 feed) (record { lines = refl; some = omega arith; alone = refl; ends = inl refl })
  | inr other ↦ rw other (cut_none byte other)
]
cut (byte ∷ next ∷ text) some = elim (cases_Bool (eqb byte 10)) [
  | inl feed ↦ rw (eqb-true byte 10 feed) (record { lines = refl; some = omega arith; alone = refl; ends = inr (λ behind. refl) })
  | inr other ↦ rw other (line_more byte (next ∷ text) _ _ other (cut (next ∷ text) (omega arith)))
]

pub first_line_cut : (text : List ℕ) (n : ℕ) → 0 < length text → n ≡ line_length text → IsFirstLine text (take n text) (drop n text)
first_line_cut text n some is =
    let h = cut text some in
    subst (λ (k : ℕ). IsFirstLine text (take k text) (drop k text)) (sym is)
    (record { lines = h.lines; parts = sym (take-append-drop (line_length text) text); some = h.some; alone = h.alone; ends = h.ends })

pub first_line_as : (text line rest : List ℕ) (n : ℕ) → 0 < length text → n ≡ line_length text → line ≡ take n text → rest ≡ drop n text → IsFirstLine text line rest
first_line_as text line rest n some is front back =
    subst (λ (l : List ℕ). IsFirstLine text l rest) (sym front)
    (subst (λ (r : List ℕ). IsFirstLine text (take n text) r) (sym back) (first_line_cut text n some is))
