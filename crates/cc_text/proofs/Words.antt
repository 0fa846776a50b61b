-- Words, numbers and quoted names at the front of a text.
use Rattle.std.proofs.Common.{◌≡◌, ℕ, zero, suc, ◌+◌, ◌-◌, ◌<◌, ◌≤◌, Bool, true, false, not, ◌||◌, ◌&&◌, cond, eqb, leb, nat_le, List, [], ◌∷◌, ◌++◌, length, get_or, take, drop, Option, Some, None, refl, sym, ap, subst, ◌∙◌, add-one, arith, length-append, inl, inr, ◌⊎◌}
use Rattle.std.proofs.Math.Seq.{take-suc, take-append_seam, get_or-append_seam}
use Rattle.std.proofs.lemmas.Bool.{eqb-true, leb-true, leb-false, or_cases}
use Rattle.std.proofs.lemmas.List.{length-take-le, get_or-take, take-append-drop, take-append-le, take_rest}
use Rattle.std.proofs.lemmas.List.Folds.{list_all_at, list_all_more}
use Rattle.std.specs.List.{list_all}
use Rattle.std.specs.Option.{option_map}
use Rattle.std.specs.Cmp.Lexicographic.{pointwise, same_text}
use Rattle.cc_defs.specs.declared.token.Mark.{Mark}
use Rattle.cc_defs.specs.declared.token.TokenKind.{TokenKind}
use Rattle.cc_defs.specs.declared.token.TokenKind.TheVariants as kinds
use Rattle.cc_defs.specs.Tokens.{is_letter, is_digit, is_word_byte, is_quotable, is_word, is_number, is_quoted, ends_quoted, mark_texts, mark_of, kind_of}
use Rattle.cc_text.specs.Fronts.{IsRun, IsFront, NoFront, IsMarkFront, NoMark, IsQuotedFront, NoQuoted}
use Rattle.cc_text.proofs.Gaps.{bool_cases, both, both_are}
use Rattle.cc_text.proofs.MarkFronts.{mark_lacks}

-- ---- runs

pub run-grows : (passes : ℕ → Bool) (items : List ℕ) (i : ℕ) → i < length items → list_all passes (take i items) ≡ true → passes (get_or items i 0) ≡ true
    → list_all passes (take (i + 1) items) ≡ true
run-grows passes items i lt so_far one = list_all_more passes items i 0 lt ∙ rw (so_far, one) refl

run_ends : (passes : ℕ → Bool) (items : List ℕ) (count more : ℕ) → IsRun passes items count → count < more → more ≤ length items
    → list_all passes (take more items) ≡ false
run_ends passes items count more r lt le =
    let stop : passes (get_or (take more items) count 0) ≡ false = rw (get_or-take more items count 0 lt) (r.ends (omega arith)) in
    list_all_at passes (take more items) count 0 (omega (arith, length-take-le more items le)) stop

-- ---- what begins with a letter, a digit or a quote

abbrev lacks_first : (ℕ → Bool) → List ℕ → Bool
lacks_first first [] = true
lacks_first first (b ∷ bs) = not (first b)

letter_digit : (c : ℕ) → is_letter c ≡ true → is_digit c ≡ false
letter_digit c e = elim (bool_cases (is_digit c)) [
  | inr d ↦ d
  | inl d ↦ absurd (let p = both (nat_le 48 c) (nat_le c 57) d in let above = leb-true 48 c p.0 in let below = leb-true c 57 p.1 in
      elim (or_cases (nat_le 97 c && nat_le c 122) _ e) [
        | inl l ↦ let q = both (nat_le 97 c) (nat_le c 122) l in let r = leb-true 97 c q.0 in omega arith
        | inr l ↦ let q = both (nat_le 65 c) (nat_le c 90) l in let r = leb-true 65 c q.0 in omega arith
      ])
]

not_at : (P : ℕ → Bool) (c k : ℕ) → P c ≡ true → P k ≡ false → eqb c k ≡ false
not_at P c k e f = elim (bool_cases (eqb c k)) [
  | inr d ↦ d
  | inl d ↦ absurd (let g : P k ≡ true = subst (λ (n : ℕ). P n ≡ true) (eqb-true c k d) e in cc)
]

no_mark : (P : ℕ → Bool) (c : ℕ) (bs : List ℕ) → list_all (λ entry. lacks_first P entry.0) mark_texts ≡ true → P c ≡ true → mark_of (c ∷ bs) ≡ None
no_mark P c bs all e = mark_lacks (lacks_first P) (c ∷ bs) all (rw e refl)

letter_kind : (c : ℕ) (bs : List ℕ) → is_letter c ≡ true → kind_of (c ∷ bs) ≡ cond (list_all is_word_byte bs) (Some kinds.Word) None
letter_kind c bs e = rw (e, letter_digit c e, not_at is_letter c 39 e refl, no_mark is_letter c bs refl e) refl

digit_kind : (c : ℕ) (bs : List ℕ) → is_letter c ≡ false → is_digit c ≡ true → kind_of (c ∷ bs) ≡ cond (list_all is_digit bs) (Some kinds.Number) None
digit_kind c bs l e = rw (l, e, not_at is_digit c 39 e refl, no_mark is_digit c bs refl e) refl

quote_kind : (bs : List ℕ) → kind_of (39 ∷ bs) ≡ cond (ends_quoted bs) (Some kinds.Quoted) None
quote_kind bs = refl

mark_kind : (c : ℕ) (bs : List ℕ) → is_letter c ≡ false → is_digit c ≡ false → eqb c 39 ≡ false → kind_of (c ∷ bs) ≡ option_map kinds.Mark (mark_of (c ∷ bs))
mark_kind c bs l d q = rw (l, d, q) refl

-- ---- fronts

-- a byte and a run behind it
run_front : (passes : ℕ → Bool) (kind : TokenKind) (c : ℕ) (bs : List ℕ) (count : ℕ)
    → ((ds : List ℕ) → kind_of (c ∷ ds) ≡ cond (list_all passes ds) (Some kind) None) → IsRun passes bs count → IsFront (c ∷ bs) kind (suc count)
run_front passes kind c bs count kinds_are r = record {
  within = (let f = r.within in omega arith);
  kind_is = kinds_are (take count bs) ∙ rw (r.passing) refl;
  longest = none;
}
  where
    none : (more : ℕ) → suc count < more → more ≤ length (c ∷ bs) → kind_of (take more (c ∷ bs)) ≡ None
    none zero lt le = absurd (omega arith)
    none (suc more) lt le = kinds_are (take more bs) ∙ rw (run_ends passes bs count more r (omega arith) (omega arith)) refl

pub word_front : (c : ℕ) (bs : List ℕ) (count : ℕ) → is_letter c ≡ true → IsRun is_word_byte bs count → IsFront (c ∷ bs) kinds.Word (count + 1)
word_front c bs count e r = rw add-one (run_front is_word_byte kinds.Word c bs count (λ ds. letter_kind c ds e) r)

pub number_front : (c : ℕ) (bs : List ℕ) (count : ℕ) → is_letter c ≡ false → is_digit c ≡ true → IsRun is_digit bs count → IsFront (c ∷ bs) kinds.Number (count + 1)
number_front c bs count l e r = rw add-one (run_front is_digit kinds.Number c bs count (λ ds. digit_kind c ds l e) r)

-- ---- quoted names

pub quoted_shape : (text : List ℕ) → ends_quoted text ≡ true → (name : List ℕ) × (text ≡ name ++ 39 ∷ []) × (list_all is_quotable name ≡ true) × (0 < length name)
quoted_shape [] e = absurd cc
quoted_shape (b ∷ []) e = absurd cc
quoted_shape (b ∷ c ∷ bs) e =
    let p = both (is_quotable b) (cond (eqb c 39) (pointwise eqb bs []) (ends_quoted (c ∷ bs))) e in
    elim (bool_cases (eqb c 39)) [
      | inl q ↦
          let f : pointwise eqb bs [] ≡ true = subst (λ (t : Bool). cond t (pointwise eqb bs []) (ends_quoted (c ∷ bs)) ≡ true) q p.1 in
          let none : bs ≡ [] = same_text bs [] (sym f) in
          let last : c ≡ 39 = eqb-true c 39 q in
          (b ∷ [], cc, both_are (is_quotable b) true p.0 refl, omega arith)
      | inr q ↦
          let f : ends_quoted (c ∷ bs) ≡ true = subst (λ (t : Bool). cond t (pointwise eqb bs []) (ends_quoted (c ∷ bs)) ≡ true) q p.1 in
          let rest = quoted_shape (c ∷ bs) f in
          (b ∷ rest.0, ap (λ (l : List ℕ). b ∷ l) rest.1, both_are (is_quotable b) (list_all is_quotable rest.0) p.0 rest.2, omega arith)
    ]

quoted_made : (name : List ℕ) → list_all is_quotable name ≡ true → 0 < length name → ends_quoted (name ++ 39 ∷ []) ≡ true
quoted_made [] e lt = absurd (omega arith)
quoted_made (b ∷ []) e lt = rw ((both (is_quotable b) true e).0) refl
quoted_made (b ∷ c ∷ bs) e lt =
    let p = both (is_quotable b) (list_all is_quotable (c ∷ bs)) e in
    let q = both (is_quotable c) (list_all is_quotable bs) p.1 in
    rw (p.0, not_at is_quotable c 39 q.0 refl) (quoted_made (c ∷ bs) p.1 (omega arith))

-- runs of one text have one length
one_run : (passes : ℕ → Bool) (items : List ℕ) (one other : ℕ) → IsRun passes items one → IsRun passes items other → one ≤ other
one_run passes items one other r s = elim (bool_cases (leb one other)) [
  | inl e ↦ leb-true one other e
  | inr e ↦ absurd (let f = run_ends passes items other one s (leb-false one other e) r.within in let g = r.passing in cc)
]

-- where a text of that many bytes is a quoted name, its run of bytes that may stand in one ends before the last
quoted_run : (text : List ℕ) (more : ℕ) → more ≤ length text → ends_quoted (take more text) ≡ true
    → (count : ℕ) × (more ≡ count + 1) × (0 < count) × IsRun is_quotable text count × (get_or text count 0 ≡ 39)
quoted_run text more le e =
    let p = quoted_shape (take more text) e in
    let size : more ≡ length p.0 + 1 = omega (arith, length-take-le more text le, ap length p.1, length-append p.0 (39 ∷ [])) in
    let first_of_first : take (length p.0) text ≡ take (length p.0) (take more text) =
    sym (ap (take (length p.0)) (take-append-drop more text)) ∙ take-append-le (length p.0) (take more text) (drop more text) (omega (arith, length-take-le more text le)) in
    let front : take (length p.0) text ≡ p.0 = first_of_first ∙ ap (take (length p.0)) p.1 ∙ take-append_seam p.0 (39 ∷ []) in
    let last : get_or text (length p.0) 0 ≡ 39 =
    sym (get_or-take more text (length p.0) 0 (omega arith)) ∙ ap (λ (l : List ℕ). get_or l (length p.0) 0) p.1 ∙ get_or-append_seam p.0 39 [] 0 in (
      length p.0,
      size,
      p.3,
      record {
        within = omega arith;
        passing = ap (list_all is_quotable) front ∙ p.2;
        ends = λ _. rw last refl;
      },
      last,
    )

pub quoted_closed : (text : List ℕ) (count : ℕ) → IsRun is_quotable text count → 0 < count → count < length text → get_or text count 0 ≡ 39 → IsQuotedFront text (count + 1)
quoted_closed text count r positive lt quote = record {
  within = omega arith;
  closed =
      let cut : take (count + 1) text ≡ take count text ++ 39 ∷ [] = rw (add-one, ← quote) (take-suc text count 0 lt) in
      ap ends_quoted cut ∙ quoted_made (take count text) r.passing (omega (arith, length-take-le count text r.within));
  longest = λ more above le. elim (bool_cases (ends_quoted (take more text))) [
    | inr e ↦ e
    | inl e ↦ absurd (let p = quoted_run text more le e in let same = one_run is_quotable text p.0 count p.3 r in let size = p.1 in omega arith)
  ];
}

pub quoted_open : (text : List ℕ) (count : ℕ) → IsRun is_quotable text count → (0 < count → count < length text → get_or text count 0 ≡ 39 → ⊥) → NoQuoted text
quoted_open text count r none more le = elim (bool_cases (ends_quoted (take more text))) [
  | inr e ↦ e
  | inl e ↦ absurd (
      let p = quoted_run text more le e in
      let size = p.1 in
      let positive = p.2 in
      let same : p.0 ≡ count = (let f = one_run is_quotable text p.0 count p.3 r in let g = one_run is_quotable text count p.0 r p.3 in omega arith) in
      none (omega arith) (omega arith) (ap (λ (i : ℕ). get_or text i 0) (sym same) ∙ p.4))
]

pub quoted_front : (text : List ℕ) (count : ℕ) → IsQuotedFront text count → IsFront (39 ∷ text) kinds.Quoted (count + 1)
quoted_front text count q = rw add-one (record {
  within = (let f = q.within in omega arith);
  kind_is = ap (λ (t : Bool). cond t (Some kinds.Quoted) None) q.closed;
  longest = none;
})
  where
    none : (more : ℕ) → suc count < more → more ≤ length (39 ∷ text) → kind_of (take more (39 ∷ text)) ≡ None
    none zero lt le = absurd (omega arith)
    none (suc more) lt le = ap (λ (t : Bool). cond t (Some kinds.Quoted) None) (q.longest more (omega arith) (omega arith))

pub no_quoted : (text : List ℕ) → NoQuoted text → NoFront (39 ∷ text)
no_quoted text none zero le = refl
no_quoted text none (suc more) le = ap (λ (t : Bool). cond t (Some kinds.Quoted) None) (none more (omega arith))

-- ---- marks

marks_kind : (c : ℕ) (bs : List ℕ) → is_letter c ≡ false → is_digit c ≡ false → eqb c 39 ≡ false
    → (more : ℕ) → kind_of (take more (c ∷ bs)) ≡ option_map kinds.Mark (mark_of (take more (c ∷ bs)))
marks_kind c bs l d q zero = refl
marks_kind c bs l d q (suc more) = mark_kind c (take more bs) l d q

pub mark_front : (c : ℕ) (bs : List ℕ) (mark : Mark) (count : ℕ) → is_letter c ≡ false → is_digit c ≡ false → eqb c 39 ≡ false
    → IsMarkFront (c ∷ bs) mark count → IsFront (c ∷ bs) (kinds.Mark mark) count
mark_front c bs mark count l d q m = record {
  within = m.within;
  kind_is = marks_kind c bs l d q count ∙ ap (option_map kinds.Mark) m.mark_is;
  longest = λ more lt le. marks_kind c bs l d q more ∙ ap (option_map kinds.Mark) (m.longest more lt le);
}

pub no_mark_front : (c : ℕ) (bs : List ℕ) → is_letter c ≡ false → is_digit c ≡ false → eqb c 39 ≡ false → NoMark (c ∷ bs) → NoFront (c ∷ bs)
no_mark_front c bs l d q none more le = marks_kind c bs l d q more ∙ ap (option_map kinds.Mark) (none more le)

pub nothing_front : NoFront []
nothing_front zero le = refl
nothing_front (suc more) le = absurd (omega arith)

-- a byte and the rest
pub first_rest : (text : List ℕ) → 1 ≤ length text → get_or text 0 0 ∷ take (length text - 1) (drop 1 text) ≡ text
first_rest [] le = absurd (omega arith)
first_rest (b ∷ bs) le = ap (λ (l : List ℕ). b ∷ l) (take_rest (b ∷ bs) 1)
