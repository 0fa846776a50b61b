-- Lists of version 1, counted.
use Rattle.std.proofs.Common.{◌≡◌, ◌≢◌, ℕ, ◌+◌, ◌-◌, ◌*◌, ◌/◌, ◌%◌, ◌<◌, ◌≤◌, List, [], ◌∷◌, ◌++◌, length, refl, sym, ap, subst, ◌∙◌, arith, append-nil, length-append, inl, inr, ◌⊎◌}
use Rattle.std.proofs.lemmas.List.{same_from_push}
use Rattle.cc_defs.specs.declared.log.Version.TheVariants.{First}
use Rattle.cc_defs.specs.Clauses.{Literal}
use Rattle.cc_check.specs.Readers.{literals_in, numbers_in}
use Rattle.cc_check.specs.Reading.{AreCounted}
use Rattle.cc_log.specs.Fronts.{AreLiterals, AreNumbers, HasNoChain, HasNoNumbers, IsChainIn, IsNumberAt, IsSignedAt}
use Rattle.cc_log.proofs.Rows.{LiteralsSoFar, NumbersSoFar, literals_begun, literals_done, literals_more, literals_shorter, numbers_begun, numbers_done, numbers_more, numbers_shorter, one_list}
use Rattle.cc_check.proofs.Taken.{text_front, text_literals}

-- ---- numbers

pub record CountedSoFar (text : List ℕ) (count last : ℕ) (rest : List ℕ) : Type 0 where
  pub made : List ℕ
  pub so_far : NumbersSoFar text made rest
  pub counted : length made ≡ count
  pub ended : (count ≡ 0) ⊎ ((front : List ℕ) × (made ≡ front ++ last ∷ []))
  pub fits : count + length rest ≤ length text

pub counted_begun : (text : List ℕ) → CountedSoFar text 0 0 text
counted_begun text = record { made = []; so_far = numbers_begun text; counted = refl; ended = inl refl; fits = omega arith }

module _ (text : List ℕ) (count last : ℕ) (rest : List ℕ) (h : CountedSoFar text count last rest) where
  pub counted_more : (behind : List ℕ) (number : ℕ) (next : List ℕ) → rest ≡ 32 ∷ behind → IsNumberAt behind number next → CountedSoFar text (count + 1) number next
  counted_more behind number next is one =
      let less = numbers_shorter rest behind number next is one in
      let fits = h.fits in
      let counted = h.counted in
      let longer = length-append h.made (number ∷ []) in
      record {
        made = h.made ++ number ∷ [];
        so_far = numbers_more text h.made rest h.so_far behind number next is one;
        counted = omega arith;
        ended = inr (h.made, refl);
        fits = omega arith;
      }

  pub counted_done : rest ≡ 10 ∷ [] → AreCounted text count last
  counted_done is =
      let all = numbers_done text h.made rest h.so_far is in
      let same : numbers_in First count text ≡ h.made =
      ap (λ (k : ℕ). numbers_in First k text) (sym h.counted) ∙ text_front text h.made [] (subst (AreNumbers text) (sym (append-nil h.made)) all) in
      record {
        numbers = subst (AreNumbers text) (sym same) all;
        counted = ap length same ∙ h.counted;
        ended = elim h.ended [ inl nil ↦ inl nil | inr (front, front_is) ↦ inr (front, same ∙ front_is) ];
      }

pub no_numbers_chain : (text : List ℕ) → HasNoNumbers text → HasNoChain text
no_numbers_chain text none chain h = none (chain ++ 0 ∷ []) h.0

module _ (text : List ℕ) (count last : ℕ) (h : AreCounted text count last) where
  pub chain_there : 0 < count → count % 2 ≡ 0 → last ≡ 0 → IsChainIn text (numbers_in First (count - 1) text)
  chain_there some even nil = elim h.ended [
    | inl none ↦ absurd (omega arith)
    | inr (front, is) ↦
        let counted = h.counted in
        let longer = ap length is ∙ length-append front (last ∷ []) in
        let all : AreNumbers text (front ++ 0 ∷ []) =
        subst (λ (n : ℕ). AreNumbers text (front ++ n ∷ [])) nil (subst (AreNumbers text) is h.numbers) in
        let one_less : count - 1 ≡ length front = omega arith in
        let half : length front ≡ 2 * ((count - 2) / 2) + 1 = omega arith in
        subst (IsChainIn text) (sym (ap (λ (k : ℕ). numbers_in First k text) one_less ∙ text_front text front (0 ∷ []) all)) (all, ((count - 2) / 2, half))
  ]

  pub no_chain : ((0 < count) × (count % 2 ≡ 0) × (last ≡ 0) → ⊥) → HasNoChain text
  no_chain never chain (all, (half, odd)) =
      let same = one_list (numbers_in First count text) (chain ++ 0 ∷ []) text h.numbers all in
      let counted = h.counted in
      let longer = ap length same ∙ length-append chain (0 ∷ []) in
      elim h.ended [
        | inl none ↦ omega arith
        | inr (front, is) ↦ never (omega arith, omega arith, (same_from_push front chain last 0 (sym is ∙ same)).1)
      ]

-- ---- literals

pub record LiteralsCounted (text : List ℕ) (count : ℕ) (rest : List ℕ) : Type 0 where
  pub made : List Literal
  pub so_far : LiteralsSoFar text made rest
  pub counted : length made ≡ count
  pub fits : count + length rest ≤ length text

pub literals_counted_begun : (text : List ℕ) → LiteralsCounted text 0 text
literals_counted_begun text = record { made = []; so_far = literals_begun text; counted = refl; fits = omega arith }

module _ (text : List ℕ) (count : ℕ) (rest : List ℕ) (h : LiteralsCounted text count rest) (behind : List ℕ) (literal : Literal) (next : List ℕ) (is : rest ≡ 32 ∷ behind)
    (one : IsSignedAt behind literal next) where
  pub literals_counted_more : literal.variable ≢ 0 → LiteralsCounted text (count + 1) next
  literals_counted_more some =
      let less = literals_shorter rest behind literal next is one in
      let fits = h.fits in
      let counted = h.counted in
      let longer = length-append h.made (literal ∷ []) in
      record {
        made = h.made ++ literal ∷ [];
        so_far = literals_more text h.made rest h.so_far behind literal next is one some;
        counted = omega arith;
        fits = omega arith;
      }

  pub literals_counted_done : literal.variable ≡ 0 → AreLiterals text (literals_in First count text) next
  literals_counted_done nil =
      let all = literals_done text h.made rest h.so_far behind literal next is one nil in
      let same : literals_in First count text ≡ h.made =
      ap (λ (k : ℕ). literals_in First k text) (sym h.counted) ∙ text_literals text h.made next all in
      subst (λ (ls : List Literal). AreLiterals text ls next) (sym same) all
