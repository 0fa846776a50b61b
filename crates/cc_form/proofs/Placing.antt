-- The positions of a horizon of two steps among those of a longer one, and how their variables move.
use Rattle.std.proofs.Common.{inl, inr, ◌≡◌, ◌∙◌, ℕ, zero, suc, ◌+◌, ◌-◌, ◌*◌, ◌<◌, ◌≤◌, List, [], ◌∷◌, ◌++◌, length, Some, slice_get, sum, refl, sym, ap, arith, append_assoc, append-nil, length-append}
use Rattle.std.specs.Prelude.{slice_index_or}
use Rattle.std.proofs.Math.Nat.{add-mul}
use Rattle.std.proofs.lemmas.Bool.{cases_lt, lt-ltb, le-ltb}
use Rattle.std.proofs.lemmas.List.{length-map}
use Rattle.std.proofs.lemmas.List.Sums.{sum_by-append}
use Rattle.cc_defs.specs.declared.signature.Const.{Const}
use Rattle.cc_defs.specs.ClauseForms.{first_variable}
use Rattle.cc_defs.specs.Description.{domain_sizes}
use Rattle.cc_defs.specs.Signatures.{Signature, ground_constants}
use Rattle.cc_theory.specs.Making.{stride_of}
use Rattle.cc_form.specs.Places.{position_sizes}
use Rattle.cc_form.specs.Steps.{moved_variable}
use Rattle.cc_form.specs.declared.moving.Move.{Move}
use Rattle.cc_form.proofs.Histories.{domain_behind}
use Rattle.cc_form.proofs.Positions.{sum_cons}

sum_two : (xs ys : List ℕ) → sum (xs ++ ys) ≡ sum xs + sum ys
sum_two xs ys = sum_by-append (λ (n : ℕ). n) xs ys

-- ---- lists behind others

first_back : (xs ys : List ℕ) (p : ℕ) → first_variable (xs ++ ys) (length xs + p) ≡ sum xs + first_variable ys p
first_back [] ys p = ap (first_variable ys) (let e : 0 + p ≡ p = omega arith in e) ∙ (let e : first_variable ys p ≡ 0 + first_variable ys p = omega arith in e)
first_back (x ∷ xs) ys p =
    ap (first_variable (x ∷ xs ++ ys)) (let e : suc (length xs) + p ≡ suc (length xs + p) = omega arith in e)
    ∙ (let more = first_back xs ys p in let all = sum_cons x xs in let e : x + first_variable (xs ++ ys) (length xs + p) ≡ sum (x ∷ xs) + first_variable ys p = omega arith in e)

first_front : (xs ys : List ℕ) (p : ℕ) → p < length xs → first_variable (xs ++ ys) p ≡ first_variable xs p
first_front [] ys p less = absurd (omega arith)
first_front (x ∷ xs) ys zero less = refl
first_front (x ∷ xs) ys (suc p) less = ap (λ (n : ℕ). x + n) (first_front xs ys p (omega arith))

index_back : (xs ys : List ℕ) (p : ℕ) → slice_index_or (xs ++ ys) (length xs + p) 0 ≡ slice_index_or ys p 0
index_back [] ys p = ap (λ (n : ℕ). slice_index_or ys n 0) (let e : 0 + p ≡ p = omega arith in e)
index_back (x ∷ xs) ys p = ap (λ (n : ℕ). slice_index_or (x ∷ xs ++ ys) n 0) (let e : suc (length xs) + p ≡ suc (length xs + p) = omega arith in e) ∙ index_back xs ys p

index_front : (xs ys : List ℕ) (p : ℕ) → p < length xs → slice_index_or (xs ++ ys) p 0 ≡ slice_index_or xs p 0
index_front [] ys p less = absurd (omega arith)
index_front (x ∷ xs) ys zero less = refl
index_front (x ∷ xs) ys (suc p) less = index_front xs ys p (omega arith)

within_list : (xs : List ℕ) (p size : ℕ) → slice_get xs p ≡ Some size → p < length xs
within_list [] p size at = absurd cc
within_list (x ∷ xs) zero size at = omega arith
within_list (x ∷ xs) (suc p) size at = let more = within_list xs p size at in omega arith

-- ---- the positions of a horizon

module _ (signature : Signature) where
  abbrev pub each : List ℕ
  each = domain_sizes (ground_constants signature)

  abbrev P : ℕ → List ℕ
  P horizon = position_sizes signature horizon

  -- so many steps
  abbrev pub steps_of : ℕ → List ℕ
  steps_of zero = []
  steps_of (suc d) = each ++ steps_of d

  pub steps_long : (d : ℕ) → length (steps_of d) ≡ d * stride_of signature
  steps_long zero = let e : 0 ≡ 0 * stride_of signature = omega arith in e
  steps_long (suc d) =
      let one : length each ≡ stride_of signature = length-map (ground_constants signature) (λ (c : Const). length c.domain) ∙ length-append signature.fluents signature.actions in
      let both = length-append each (steps_of d) in
      let more = steps_long d in
      let turned : (d + 1) * stride_of signature ≡ d * stride_of signature + 1 * stride_of signature = add-mul d 1 (stride_of signature) in
      let same : suc d * stride_of signature ≡ (d + 1) * stride_of signature = ap (λ (n : ℕ). n * stride_of signature) (let e : suc d ≡ d + 1 = omega arith in e) in
      omega arith

  steps_sum : (d : ℕ) → sum (steps_of d) ≡ d * sum each
  steps_sum zero = let e : 0 ≡ 0 * sum each = omega arith in e
  steps_sum (suc d) =
      let both = sum_two each (steps_of d) in
      let more = steps_sum d in
      let turned : (d + 1) * sum each ≡ d * sum each + 1 * sum each = add-mul d 1 (sum each) in
      let same : suc d * sum each ≡ (d + 1) * sum each = ap (λ (n : ℕ). n * sum each) (let e : suc d ≡ d + 1 = omega arith in e) in
      omega arith

  pub behind_steps : (d n : ℕ) → P (d + n) ≡ steps_of d ++ P n
  behind_steps zero n = ap P (let e : 0 + n ≡ n = omega arith in e)
  behind_steps (suc d) n = ap P (let e : suc d + n ≡ suc (d + n) = omega arith in e) ∙ ap (λ (l : List ℕ). each ++ l) (behind_steps d n) ∙ sym (append_assoc each (steps_of d) (P n))

  -- what stands behind the fluents of a step
  abbrev rest_of : ℕ → List ℕ
  rest_of zero = []
  rest_of (suc n) = domain_sizes signature.actions ++ P n

  begins : (n : ℕ) → P n ≡ domain_sizes signature.fluents ++ rest_of n
  begins zero = sym (append-nil (domain_sizes signature.fluents))
  begins (suc n) = ap (λ (l : List ℕ). l ++ P n) (domain_behind signature.fluents signature.actions) ∙ append_assoc (domain_sizes signature.fluents) (domain_sizes signature.actions) (P n)

  two_first : (n : ℕ) → P (suc (suc n)) ≡ P 2 ++ rest_of n
  two_first n =
      ap (λ (l : List ℕ). each ++ (each ++ l)) (begins n)
      ∙ ap (λ (l : List ℕ). each ++ l) (sym (append_assoc each (domain_sizes signature.fluents) (rest_of n)))
      ∙ sym (append_assoc each (each ++ domain_sizes signature.fluents) (rest_of n))

  split_at : (d m : ℕ) → d + 2 ≤ m → P m ≡ steps_of d ++ (P 2 ++ rest_of (m - (d + 2)))
  split_at d m most = ap P (let e : m ≡ d + suc (suc (m - (d + 2))) = omega arith in e) ∙ behind_steps d (suc (suc (m - (d + 2)))) ∙ ap (λ (l : List ℕ). steps_of d ++ l) (two_first (m - (d + 2)))

  pub sums_below : (d m : ℕ) → d + 2 ≤ m → d * sum each + sum (P 2) ≤ sum (P m)
  sums_below d m most =
      let all = ap sum (split_at d m most) in
      let one = sum_two (steps_of d) (P 2 ++ rest_of (m - (d + 2))) in
      let two = sum_two (P 2) (rest_of (m - (d + 2))) in
      let steps = steps_sum d in
      omega arith

  pub first_later : (d m p size : ℕ) → d + 2 ≤ m → slice_get (P 2) p ≡ Some size → first_variable (P m) (d * stride_of signature + p) ≡ d * sum each + first_variable (P 2) p
  first_later d m p size most at =
      ap (λ (l : List ℕ). first_variable l (d * stride_of signature + p)) (split_at d m most)
      ∙ ap (λ (n : ℕ). first_variable (steps_of d ++ (P 2 ++ rest_of (m - (d + 2)))) (n + p)) (sym (steps_long d))
      ∙ first_back (steps_of d) (P 2 ++ rest_of (m - (d + 2))) p
      ∙ ap (λ (n : ℕ). sum (steps_of d) + n) (first_front (P 2) (rest_of (m - (d + 2))) p (within_list (P 2) p size at))
      ∙ ap (λ (n : ℕ). n + first_variable (P 2) p) (steps_sum d)

  pub sized_later : (d m p size : ℕ) → d + 2 ≤ m → slice_get (P 2) p ≡ Some size → slice_index_or (P m) (d * stride_of signature + p) 0 ≡ slice_index_or (P 2) p 0
  sized_later d m p size most at =
      ap (λ (l : List ℕ). slice_index_or l (d * stride_of signature + p) 0) (split_at d m most)
      ∙ ap (λ (n : ℕ). slice_index_or (steps_of d ++ (P 2 ++ rest_of (m - (d + 2)))) (n + p) 0) (sym (steps_long d))
      ∙ index_back (steps_of d) (P 2 ++ rest_of (m - (d + 2))) p
      ∙ index_front (P 2) (rest_of (m - (d + 2))) p (within_list (P 2) p size at)

-- ---- how variables move

module _ (move : Move) where
  pub moved_low : (n : ℕ) → n ≤ move.atoms → moved_variable move n ≡ n + move.low
  moved_low n most = rw (le-ltb move.atoms n most) refl

  pub moved_truth : (n : ℕ) → n ≡ move.atoms + 1 → moved_variable move n ≡ n + move.middle
  moved_truth n is = rw (lt-ltb move.atoms n (omega arith), le-ltb (move.atoms + 1) n (omega arith)) refl

  pub moved_high : (n : ℕ) → move.atoms + 1 < n → moved_variable move n ≡ n + move.high
  moved_high n least = rw (lt-ltb move.atoms n (omega arith), lt-ltb (move.atoms + 1) n least) refl

  module _ (low_middle : move.low ≤ move.middle) (middle_high : move.middle ≤ move.high) where
    pub moved_rises : (a b : ℕ) → a < b → moved_variable move a < moved_variable move b
    moved_rises a b less = elim (cases_lt move.atoms b) [
      | inr low ↦ let one = moved_low a (omega arith) in let other = moved_low b low in omega arith
      | inl above ↦ elim (cases_lt (move.atoms + 1) b) [
        | inl high ↦ let other = moved_high b high in let one = below_high a in omega arith
        | inr truth ↦ let other = moved_truth b (omega arith) in let one = moved_low a (omega arith) in omega arith
      ]
    ]
      where
        below_high : (n : ℕ) → moved_variable move n ≤ n + move.high
        below_high n = elim (cases_lt move.atoms n) [
          | inr low ↦ let is = moved_low n low in omega arith
          | inl above ↦ elim (cases_lt (move.atoms + 1) n) [
            | inl high ↦ let is = moved_high n high in omega arith
            | inr truth ↦ let is = moved_truth n (omega arith) in omega arith
          ]
        ]

    pub moved_most : (n : ℕ) → moved_variable move n ≤ n + move.high
    moved_most n = elim (cases_lt move.atoms n) [
      | inr low ↦ let is = moved_low n low in omega arith
      | inl above ↦ elim (cases_lt (move.atoms + 1) n) [
        | inl high ↦ let is = moved_high n high in omega arith
        | inr truth ↦ let is = moved_truth n (omega arith) in omega arith
      ]
    ]

    pub moved_least : (n : ℕ) → n ≤ moved_variable move n
    moved_least n = elim (cases_lt move.atoms n) [
      | inr low ↦ let is = moved_low n low in omega arith
      | inl above ↦ elim (cases_lt (move.atoms + 1) n) [
        | inl high ↦ let is = moved_high n high in omega arith
        | inr truth ↦ let is = moved_truth n (omega arith) in omega arith
      ]
    ]
