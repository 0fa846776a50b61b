-- The formula that a row lies after a key.
use Rattle.std.proofs.Common.{◌≡◌, ◌∙◌, ℕ, zero, suc, ◌+◌, ◌-◌, ◌<◌, ◌⊎◌, inl, inr, Bool, true, false, ◌&&◌, ◌||◌, List, [], ◌∷◌, ◌++◌, map, slice_get, Some, refl, sym, ap, subst, arith}
use Rattle.std.specs.Prelude.{◌==◌, slice_index}
use Rattle.std.specs.List.{list_any, AllByRecursion}
use Rattle.std.specs.Ordering.{nat_cmp}
use Rattle.std.specs.declared.cmp.Ordering.TheVariants.{Less, Equal, Greater}
use Rattle.std.proofs.lemmas.Bool.{cases_lt, cases_order, lt-ltb, le-ltb, eqb-true, eq-eqb, ne_eqb}
use Rattle.cc_defs.specs.ClauseLists.{after_key, values_above}
use Rattle.cc_defs.specs.Rows.{IsBelow, IsRow, row_cmp}
use Rattle.cc_defs.specs.Rules.{upto}
use Rattle.cc_defs.specs.Terms.{Ground, Operands, nothing, and_then, operands_behind, truth, any_true}
use Rattle.cc_defs.specs.Terms as terms
use Rattle.cc_form.proofs.Meaning.{AtomsFit, AtomsFitIn, and_is, or_gives, or_is}
use Rattle.cc_defs.specs.Clauses.{IsIn}
use Rattle.cc_form.proofs.Ordered.{both_true}
use Rattle.cc_form.proofs.RowValues.{mapped_last}
use Rattle.cc_form.proofs.Written.{any_gives, any_made}

less : (m n : ℕ) → m < n → nat_cmp m n ≡ Less
less m n below = rw (lt-ltb m n below) refl

equal : (m n : ℕ) → m ≡ n → nat_cmp m n ≡ Equal
equal m n same = rw (le-ltb m n (omega arith), eq-eqb m n same) refl

greater : (m n : ℕ) → n < m → nat_cmp m n ≡ Greater
greater m n above = rw (le-ltb m n (omega arith), ne_eqb m n (λ same. omega arith)) refl

among_append : {X : Type 0} (xs ys : List X) (x : X) → IsIn (xs ++ ys) x → IsIn xs x ⊎ IsIn ys x
among_append [] ys x h = inr h
among_append (y ∷ xs) ys x (inl e) = inl (inl e)
among_append (y ∷ xs) ys x (inr h) = elim (among_append xs ys x h) [ inl k ↦ inl (inr k) | inr k ↦ inr k ]

in_left : {X : Type 0} (xs ys : List X) (x : X) → IsIn xs x → IsIn (xs ++ ys) x
in_left [] ys x h = absurd h
in_left (y ∷ xs) ys x (inl e) = inl e
in_left (y ∷ xs) ys x (inr h) = inr (in_left xs ys x h)

in_right : {X : Type 0} (xs ys : List X) (x : X) → IsIn ys x → IsIn (xs ++ ys) x
in_right [] ys x h = h
in_right (y ∷ xs) ys x h = inr (in_right xs ys x h)

module _ {X : Type 0} (f : ℕ → X) where
  at_upto : (n : ℕ) (x : X) → IsIn (map f (upto n)) x → (k : ℕ) × (k < n) × (f k ≡ x)
  at_upto zero x h = absurd h
  at_upto (suc n) x h = elim (among_append (map f (upto n)) (f n ∷ []) x (subst (λ (l : List X). IsIn l x) (mapped_last f (upto n) n) h)) [
    | inl k ↦ let found = at_upto n x k in (found.0, (let below = found.1 in omega arith), found.2)
    | inr k ↦ elim k [ inl e ↦ (n, (omega arith), e) | inr e ↦ absurd e ]
  ]

  upto_at : (n k : ℕ) → k < n → IsIn (map f (upto n)) (f k)
  upto_at zero k below = absurd (omega arith)
  upto_at (suc n) k below = subst (λ (l : List X). IsIn l (f k)) (sym (mapped_last f (upto n) n)) (elim (cases_lt k n) [
    | inl lower ↦ in_left (map f (upto n)) (f n ∷ []) (f k) (upto_at n k lower)
    | inr upper ↦ in_right (map f (upto n)) (f n ∷ []) (f k) (inl (ap f (let e : n ≡ k = omega arith in e)))
  ])

  all_upto : (P : X → Type 0) (n : ℕ) → ((k : ℕ) → k < n → P (f k)) → AllByRecursion P (map f (upto n))
  all_upto P n each = from (map f (upto n)) (λ x h. let found = at_upto n x h in subst P found.2 (each found.0 found.1))
    where
      from : (xs : List X) → ((x : X) → IsIn xs x → P x) → AllByRecursion P xs
      from [] h = tt
      from (x ∷ xs) h = (h x (inl refl), from xs (λ y k. h y (inr k)))

module _ (v : ℕ → ℕ) where
  any_behind : (formulas : List Ground) (operands : Operands) → any_true v (operands_behind operands formulas) ≡ (any_true v operands || list_any (truth v) formulas)
  any_behind [] operands = or_none (any_true v operands)
    where
      or_none : (p : Bool) → p ≡ (p || false)
      or_none true = refl
      or_none false = refl
  any_behind (f ∷ formulas) operands = any_behind formulas (and_then operands f) ∙ grouped (any_true v operands) (truth v f) (list_any (truth v) formulas)
    where
      grouped : (p q r : Bool) → (p || q || r) ≡ (p || (q || r))
      grouped true q r = refl
      grouped false q r = refl

  above_true : (position value size : ℕ) → v position < size → value < v position → list_any (truth v) (values_above position value size) ≡ true
  above_true position value size within below =
      let f : ℕ → Ground = λ more. terms.Atom position (value + 1 + more) in
      let k = v position - (value + 1) in
      any_made (truth v) (values_above position value size) (f k) (upto_at f (size - (value + 1)) k (omega arith)) (eq-eqb (v position) (value + 1 + k) (omega arith))

  true_above : (position value size : ℕ) → list_any (truth v) (values_above position value size) ≡ true → value < v position
  true_above position value size e =
      let f : ℕ → Ground = λ more. terms.Atom position (value + 1 + more) in
      let found = any_gives (truth v) (values_above position value size) e in
      let at = at_upto f (size - (value + 1)) found.0 found.1 in
      let is = eqb-true (v position) (value + 1 + at.0) (ap (truth v) at.2 ∙ found.2) in
      omega arith

  -- the truth of the formula, taken apart
  first_apart : (position size index : ℕ) (sizes indexes : List ℕ) → truth v (after_key position (size ∷ sizes) (index ∷ indexes))
      ≡ (list_any (truth v) (values_above position index size) || ((v position == index) && truth v (after_key (position + 1) sizes indexes)))
  first_apart position size index sizes indexes =
      ap (λ (b : Bool). b || ((v position == index) && truth v (after_key (position + 1) sizes indexes))) (any_behind (values_above position index size) nothing)

  pub after_true : (sizes indexes row : List ℕ) (position : ℕ) → IsRow sizes indexes → IsRow sizes row → ((k : ℕ) → v (position + k) ≡ slice_index row k) →
      IsBelow indexes row → truth v (after_key position sizes indexes) ≡ true
  after_true [] [] [] position low is at below = absurd cc
  after_true [] [] (r ∷ row) position low is at below = absurd is
  after_true [] (i ∷ indexes) row position low is at below = absurd low
  after_true (size ∷ sizes) [] row position low is at below = absurd low
  after_true (size ∷ sizes) (i ∷ indexes) [] position low is at below = absurd is
  after_true (size ∷ sizes) (i ∷ indexes) (r ∷ row) position low is at below =
      let here : v position ≡ r = ap v (let e : position ≡ position + 0 = omega arith in e) ∙ at 0 in
      first_apart position size i sizes indexes ∙ or_is (list_any (truth v) (values_above position i size)) ((v position == i) && truth v (after_key (position + 1) sizes indexes)) (elim (cases_order i r) [
        | inl same ↦ inr (and_is (v position == i) (truth v (after_key (position + 1) sizes indexes)) (eq-eqb (v position) i (here ∙ sym same))
            (after_true sizes indexes row (position + 1) low.1 is.1 (λ k. ap v (let e : position + 1 + k ≡ position + suc k = omega arith in e) ∙ at (suc k))
            (same_first i r indexes row (equal i r same) below)))
        | inr (inl lower) ↦ inl (above_true position i size (let s = is.0 in omega arith) (omega arith))
        | inr (inr higher) ↦ absurd (never_less i r indexes row (greater i r higher) below)
      ])
    where
      same_first : (i r : ℕ) (indexes row : List ℕ) → nat_cmp i r ≡ Equal → IsBelow (i ∷ indexes) (r ∷ row) → IsBelow indexes row
      same_first i r indexes row e below = sym (rw e refl) ∙ below

      never_less : (i r : ℕ) (indexes row : List ℕ) → nat_cmp i r ≡ Greater → IsBelow (i ∷ indexes) (r ∷ row) → ⊥
      never_less i r indexes row e below = let is : row_cmp (i ∷ indexes) (r ∷ row) ≡ Greater = rw e refl in cc

  pub true_after : (sizes indexes row : List ℕ) (position : ℕ) → IsRow sizes indexes → IsRow sizes row → ((k : ℕ) → v (position + k) ≡ slice_index row k) →
      truth v (after_key position sizes indexes) ≡ true → IsBelow indexes row
  true_after [] [] [] position low is at e = absurd cc
  true_after [] [] (r ∷ row) position low is at e = absurd is
  true_after [] (i ∷ indexes) row position low is at e = absurd low
  true_after (size ∷ sizes) [] row position low is at e = absurd low
  true_after (size ∷ sizes) (i ∷ indexes) [] position low is at e = absurd is
  true_after (size ∷ sizes) (i ∷ indexes) (r ∷ row) position low is at e =
      let here : v position ≡ r = ap v (let s : position ≡ position + 0 = omega arith in s) ∙ at 0 in
      elim (or_gives (list_any (truth v) (values_above position i size)) ((v position == i) && truth v (after_key (position + 1) sizes indexes)) (sym (first_apart position size i sizes indexes) ∙ e)) [
        | inl above ↦ let lower = true_above position i size above in let is_less = less i r (omega arith) in rw is_less refl
        | inr both ↦
            let parts = both_true (v position == i) (truth v (after_key (position + 1) sizes indexes)) both in
            let same : i ≡ r = sym (eqb-true (v position) i parts.0) ∙ here in
            let rest : row_cmp indexes row ≡ Less = true_after sizes indexes row (position + 1) low.1 is.1 (λ k. ap v (let s : position + 1 + k ≡ position + suc k = omega arith in s) ∙ at (suc k)) parts.1 in
            rw (equal i r same) rest
      ]

-- ---- its atoms

behind_fit : (sizes : List ℕ) (formulas : List Ground) (operands : Operands) → AtomsFitIn sizes operands → AllByRecursion (AtomsFit sizes) formulas → AtomsFitIn sizes (operands_behind operands formulas)
behind_fit sizes [] operands fit all = fit
behind_fit sizes (f ∷ formulas) operands fit all = behind_fit sizes formulas (and_then operands f) (fit, all.0) all.1

pub key_fits : (sizes rest indexes : List ℕ) (position : ℕ) → IsRow rest indexes → ((k size : ℕ) → slice_get rest k ≡ Some size → slice_get sizes (position + k) ≡ Some size) →
    AtomsFit sizes (after_key position rest indexes)
key_fits sizes [] indexes position is at = tt
key_fits sizes (size ∷ rest) [] position is at = tt
key_fits sizes (size ∷ rest) (index ∷ indexes) position is at =
    let here : slice_get sizes position ≡ Some size = ap (slice_get sizes) (let e : position ≡ position + 0 = omega arith in e) ∙ at 0 size refl in (
      (
        tt,
        behind_fit sizes (values_above position index size) nothing tt
            (all_upto (λ more. terms.Atom position (index + 1 + more)) (AtomsFit sizes) (size - (index + 1)) (λ k less. (size, here, (omega arith)))),
      ),
      (
        (tt, (size, here, is.0)),
        key_fits sizes rest indexes (position + 1) is.1 (λ k s e. ap (slice_get sizes) (let f : position + 1 + k ≡ position + suc k = omega arith in f) ∙ at (suc k) s e),
      ),
    )
