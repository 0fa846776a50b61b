-- The first word of a line, by its length.
use Rattle.std.proofs.Common.{◌≡◌, ◌∙◌, ℕ, suc, ◌+◌, ◌<◌, ◌≤◌, true, false, cond, List, [], ◌∷◌, length, get_or, drop, take, refl, sym, ap, arith, inl, inr}
use Rattle.std.specs.List.{filter}
use Rattle.std.proofs.lemmas.Bool.{cases_Bool}
use Rattle.std.proofs.lemmas.List.{drop_more, drop_all}
use Rattle.cc_dimacs.specs.CnfTexts.{before_pieces, is_some_piece, is_space, pieces_in, words_in}
use Rattle.cc_dimacs.specs.Reading.{BeginsBare}

abbrev pub word_length : List ℕ → ℕ
word_length [] = 0
word_length (byte ∷ bytes) = cond (is_space byte) 0 (suc (word_length bytes))

pub word_here : (text : List ℕ) (i : ℕ) → i < length text → i + word_length (drop i text) ≡ word_length text → is_space (get_or text i 0) ≡ true → i ≡ word_length text
word_here text i below so_far space =
    let e : word_length (drop i text) ≡ 0 = ap word_length (drop_more text i 0 below) ∙ rw space refl in
    omega arith

pub word_more : (text : List ℕ) (i : ℕ) → i < length text → i + word_length (drop i text) ≡ word_length text → is_space (get_or text i 0) ≡ false → i + 1 + word_length (drop (i + 1) text) ≡ word_length text
word_more text i below so_far other =
    let e : word_length (drop i text) ≡ suc (word_length (drop (i + 1) text)) = ap word_length (drop_more text i 0 below) ∙ rw other refl in
    omega arith

pub word_all : (text : List ℕ) (i : ℕ) → length text ≤ i → i ≤ length text → i + word_length (drop i text) ≡ word_length text → length text ≡ word_length text
word_all text i past within so_far = let e : word_length (drop i text) ≡ 0 = ap word_length (drop_all i text past) in omega arith

-- the pieces behind the first one
abbrev pieces_behind : List ℕ → List (List ℕ)
pieces_behind [] = []
pieces_behind (byte ∷ bytes) = pieces_in bytes

first_piece : (text : List ℕ) → pieces_in text ≡ take (word_length text) text ∷ pieces_behind (drop (word_length text) text)
first_piece [] = refl
first_piece (byte ∷ bytes) = elim (cases_Bool (is_space byte)) [
  | inl space ↦ rw space refl
  | inr other ↦ rw other (ap (before_pieces byte) (first_piece bytes))
]

space_skipped : (byte : ℕ) (bytes : List ℕ) → is_space byte ≡ true → words_in (byte ∷ bytes) ≡ words_in bytes
space_skipped byte bytes space = rw space refl

-- what stands behind a word is a space
behind_same : (text : List ℕ) → filter is_some_piece (pieces_behind (drop (word_length text) text)) ≡ words_in (drop (word_length text) text)
behind_same [] = refl
behind_same (byte ∷ bytes) = elim (cases_Bool (is_space byte)) [
  | inl space ↦ rw space (sym (space_skipped byte bytes space))
  | inr other ↦ rw other (behind_same bytes)
]

pub word_cut : (text word rest : List ℕ) (n : ℕ) → 0 < length text → BeginsBare text → n ≡ word_length text → word ≡ take n text → rest ≡ drop n text → words_in text ≡ word ∷ words_in rest
word_cut [] word rest n some begins is front back = absurd (omega arith)
word_cut (byte ∷ bytes) word rest n some begins is front back =
    let at : word_length (byte ∷ bytes) ≡ suc (word_length bytes) = rw begins refl in
    ap (filter is_some_piece) (first_piece (byte ∷ bytes))
    ∙ (rw at refl)
    ∙ ap (λ (ws : List (List ℕ)). (byte ∷ take (word_length bytes) bytes) ∷ ws) (behind_same bytes)
    ∙ ap (λ (k : ℕ). take k (byte ∷ bytes) ∷ words_in (drop k (byte ∷ bytes))) (sym at ∙ sym is)
    ∙ ap (λ (w : List ℕ). w ∷ words_in (drop n (byte ∷ bytes))) (sym front) ∙ ap (λ (r : List ℕ). word ∷ words_in r) (sym back)
