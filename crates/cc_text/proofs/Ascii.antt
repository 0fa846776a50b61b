-- The bytes of a token are ASCII.
use Rattle.std.proofs.Common.{◌≡◌, ℕ, zero, suc, ◌<◌, ◌≤◌, Bool, true, false, not, ◌||◌, ◌&&◌, cond, eqb, leb, List, [], ◌∷◌, ◌++◌, length, get_or, Option, Some, None, refl, sym, ap, subst, ◌∙◌, arith, inl, inr, ◌⊎◌}
use Rattle.std.proofs.lemmas.Bool.{eqb-true, leb-true, le-leb, or_cases}
use Rattle.std.proofs.lemmas.List.Folds.{list_all-append}
use Rattle.std.specs.List.{list_all}
use Rattle.std.specs.Option.{option_map}
use Rattle.std.specs.Str.{IsAscii}
use Rattle.cc_defs.specs.declared.token.Mark.{Mark}
use Rattle.cc_defs.specs.declared.token.TokenKind.{TokenKind}
use Rattle.cc_defs.specs.declared.token.TokenKind.TheVariants as kinds
use Rattle.cc_defs.specs.Tokens.{is_letter, is_digit, is_word_byte, is_quotable, is_word, is_number, is_quoted, ends_quoted, mark_of, kind_of}
use Rattle.cc_text.proofs.Gaps.{bool_cases, both, both_are}
use Rattle.cc_text.proofs.MarkFronts.{mark_has}
use Rattle.cc_text.proofs.Words.{quoted_shape}

abbrev is_low : ℕ → Bool
is_low b = leb b 127

abbrev all_low : List ℕ → Bool
all_low bytes = list_all is_low bytes

low : (b : ℕ) → b ≤ 127 → is_low b ≡ true
low b le = le-leb b 127 le

between_low : (from to b : ℕ) → to ≤ 127 → (leb from b && leb b to) ≡ true → is_low b ≡ true
between_low from to b le e = let p = both (leb from b) (leb b to) e in let f = leb-true b to p.1 in low b (omega arith)

letter_low : (b : ℕ) → is_letter b ≡ true → is_low b ≡ true
letter_low b e = elim (or_cases (leb 97 b && leb b 122) (leb 65 b && leb b 90) e) [
  | inl f ↦ between_low 97 122 b (omega arith) f
  | inr f ↦ between_low 65 90 b (omega arith) f
]

digit_low : (b : ℕ) → is_digit b ≡ true → is_low b ≡ true
digit_low b e = between_low 48 57 b (omega arith) e

or_three : (s t u : Bool) → (s || (t || u)) ≡ true → (s ≡ true) ⊎ ((t ≡ true) ⊎ (u ≡ true))
or_three true t u e = inl refl
or_three false true u e = inr (inl refl)
or_three false false u e = inr (inr e)

or_left : (s t u : Bool) → ((s || t) || u) ≡ true → (s ≡ true) ⊎ ((t ≡ true) ⊎ (u ≡ true))
or_left true t u e = inl refl
or_left false true u e = inr (inl refl)
or_left false false u e = inr (inr e)

word_low : (b : ℕ) → is_word_byte b ≡ true → is_low b ≡ true
word_low b e = elim (or_left (is_letter b) (is_digit b) (eqb b 95) e) [
  | inl f ↦ letter_low b f
  | inr g ↦ elim g [
    | inl f ↦ digit_low b f
    | inr f ↦ let same = eqb-true b 95 f in low b (omega arith)
  ]
]

quotable_low : (b : ℕ) → is_quotable b ≡ true → is_low b ≡ true
quotable_low b e =
    between_low 32 126 b (omega arith) ((both (leb 32 b && leb b 126) (not (eqb b 39)) e).0)

each : (P Q : ℕ → Bool) → ((b : ℕ) → P b ≡ true → Q b ≡ true) → (bytes : List ℕ) → list_all P bytes ≡ true → list_all Q bytes ≡ true
each P Q f [] e = refl
each P Q f (b ∷ bytes) e = let p = both (P b) (list_all P bytes) e in both_are (Q b) (list_all Q bytes) (f b p.0) (each P Q f bytes p.1)

word_all : (piece : List ℕ) → is_word piece ≡ true → all_low piece ≡ true
word_all [] e = refl
word_all (b ∷ bs) e = let p = both (is_letter b) (list_all is_word_byte bs) e in both_are (is_low b) (all_low bs) (letter_low b p.0) (each is_word_byte is_low word_low bs p.1)

number_all : (piece : List ℕ) → is_number piece ≡ true → all_low piece ≡ true
number_all [] e = refl
number_all (b ∷ bs) e = let p = both (is_digit b) (list_all is_digit bs) e in both_are (is_low b) (all_low bs) (digit_low b p.0) (each is_digit is_low digit_low bs p.1)

quoted_all : (piece : List ℕ) → is_quoted piece ≡ true → all_low piece ≡ true
quoted_all [] e = refl
quoted_all (b ∷ bs) e =
    let p = both (eqb b 39) (ends_quoted bs) e in
    let quote = eqb-true b 39 p.0 in
    let shape = quoted_shape bs p.1 in
    let name : all_low shape.0 ≡ true = each is_quotable is_low quotable_low shape.0 shape.2 in
    let rest : all_low bs ≡ true = ap all_low shape.1 ∙ list_all-append is_low shape.0 (39 ∷ []) ∙ both_are (all_low shape.0) true name refl in
    both_are (is_low b) (all_low bs) (low b (omega arith)) rest

mark_all : (piece : List ℕ) (mark : Mark) → mark_of piece ≡ Some mark → all_low piece ≡ true
mark_all piece mark e = mark_has all_low piece mark refl e

mark_cases : (o : Option Mark) → ((mark : Mark) × (o ≡ Some mark)) ⊎ (o ≡ None)
mark_cases None = inr refl
mark_cases (Some mark) = inl (mark, refl)

by_kind : (word number quoted : Bool) (mark : Option Mark) (kind : TokenKind)
    → cond word (Some kinds.Word) (cond number (Some kinds.Number) (cond quoted (Some kinds.Quoted) (option_map kinds.Mark mark))) ≡ Some kind
    → (word ≡ true) ⊎ ((number ≡ true) ⊎ ((quoted ≡ true) ⊎ ((m : Mark) × (mark ≡ Some m))))
by_kind true number quoted mark kind e = inl refl
by_kind false true quoted mark kind e = inr (inl refl)
by_kind false false true mark kind e = inr (inr (inl refl))
by_kind false false false None kind e = absurd cc
by_kind false false false (Some m) kind e = inr (inr (inr (m, refl)))

low_at : (bytes : List ℕ) (i : ℕ) → all_low bytes ≡ true → get_or bytes i 0 < 128
low_at [] i e = omega arith
low_at (b ∷ bytes) zero e = let f = leb-true b 127 ((both (is_low b) (all_low bytes) e).0) in omega arith
low_at (b ∷ bytes) (suc i) e = low_at bytes i ((both (is_low b) (all_low bytes) e).1)

token_low : (piece : List ℕ) (kind : TokenKind) → kind_of piece ≡ Some kind → all_low piece ≡ true
token_low piece kind e = elim (by_kind (is_word piece) (is_number piece) (is_quoted piece) (mark_of piece) kind e) [
  | inl w ↦ word_all piece w
  | inr f ↦ elim f [
    | inl n ↦ number_all piece n
    | inr g ↦ elim g [
      | inl q ↦ quoted_all piece q
      | inr m ↦ mark_all piece m.0 m.1
    ]
  ]
]

pub token_ascii : (piece : List ℕ) (kind : TokenKind) → kind_of piece ≡ Some kind → IsAscii piece
token_ascii piece kind e i = low_at piece i (token_low piece kind e)
