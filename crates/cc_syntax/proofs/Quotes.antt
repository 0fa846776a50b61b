-- A quoted name may be cut behind its first quote and before its last.
use Rattle.std.proofs.Common.{◌≡◌, ℕ, ◌+◌, ◌-◌, ◌≤◌, Bool, true, false, cond, IsTrue, eqb, List, [], ◌∷◌, ◌++◌, length, get_or, refl, ap, ◌∙◌, length-append, arith}
use Rattle.std.specs.Cmp.Lexicographic.{pointwise}
use Rattle.std.proofs.lemmas.Bool.{and_parts, eqb-true}
use Rattle.std.proofs.Math.Seq.{get_or-append_seam}
use Rattle.cc_defs.specs.Tokens.{is_quotable, is_quoted, ends_quoted}

-- what ends in a quote is a name and the quote
pub quoted_shape : (text : List ℕ) → ends_quoted text ≡ true → (name : List ℕ) × (text ≡ name ++ 39 ∷ [])
quoted_shape [] e = absurd cc
quoted_shape (b ∷ []) e = absurd cc
quoted_shape (b ∷ c ∷ bs) e = by (eqb c 39) refl (and_parts (is_quotable b) _ e).1 (quoted_shape (c ∷ bs))
  where
    none_left : (rest : List ℕ) → pointwise eqb rest [] ≡ true → rest ≡ []
    none_left [] e = refl
    none_left (x ∷ xs) e = absurd cc

    by : (last : Bool) → eqb c 39 ≡ last → cond last (pointwise eqb bs []) (ends_quoted (c ∷ bs)) ≡ true
        → (ends_quoted (c ∷ bs) ≡ true → (name : List ℕ) × (c ∷ bs ≡ name ++ 39 ∷ [])) → (name : List ℕ) × (b ∷ c ∷ bs ≡ name ++ 39 ∷ [])
    by true is e more =
        let none : bs ≡ [] = none_left bs e in
        let quote : c ≡ 39 = eqb-true c 39 is in
        (b ∷ [], cc)
    by false is e more = let rest = more e in (b ∷ rest.0, ap (λ (l : List ℕ). b ∷ l) rest.1)

pub last-quote : (text : List ℕ) → IsTrue (is_quoted text) → (2 ≤ length text) × (get_or text (length text - 1) 0 ≡ 39)
last-quote [] is = absurd cc
last-quote (b ∷ bs) is =
    let shape = quoted_shape bs ((and_parts (eqb b 39) (ends_quoted bs) is).1) in
    let many : length bs ≡ length shape.0 + 1 = omega (arith, ap length shape.1, length-append shape.0 (39 ∷ [])) in
    let at : length (b ∷ bs) - 1 ≡ length (b ∷ shape.0) = omega arith in
    let last : get_or (b ∷ bs) (length (b ∷ shape.0)) 0 ≡ 39 =
    ap (λ (l : List ℕ). get_or (b ∷ l) (length (b ∷ shape.0)) 0) shape.1 ∙ get_or-append_seam (b ∷ shape.0) 39 [] 0 in
    (omega arith, ap (λ (i : ℕ). get_or (b ∷ bs) i 0) at ∙ last)
