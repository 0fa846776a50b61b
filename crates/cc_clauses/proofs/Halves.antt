-- The literals of a clause on lower and on higher variables are its front and its back.
use Rattle.std.proofs.Common.{◌≡◌, ℕ, ◌<◌, ◌≤◌, inl, inr, zero, suc, Bool, true, false, List, [], ◌∷◌, length, get_or, take, drop, ltb, leb, refl, sym, ap, arith, add-one}
use Rattle.std.specs.List.{filter}
use Rattle.std.specs.List.Sorted.{IsPartitionPoint, IsNonDecreasingBy}
use Rattle.std.proofs.lemmas.Bool.{lt-ltb, le-ltb}
use Rattle.std.proofs.lemmas.List.Sorted.{IsNonDecreasingBy-from_all_adjacent}
use borrow.Author.Tests.{leb-true, leb-false}
use Rattle.cc_defs.specs.Clauses.{Literal, IsBefore, IsClause}
use Rattle.cc_clauses.specs.Merging.{lower, higher, is_lower, is_higher}

no_lower : (a b : Literal) → IsBefore a b → a.variable ≤ b.variable
no_lower a b (inl less) = omega arith
no_lower a b (inr (same, low, high)) = omega arith

variables_rise : (xs : List Literal) → IsClause xs → (k : ℕ) (d : Literal) → suc k < length xs → (get_or xs k d).variable ≤ (get_or xs (suc k) d).variable
variables_rise [] h k d below = absurd (omega arith)
variables_rise (x ∷ []) h k d below = absurd (omega arith)
variables_rise (x ∷ y ∷ ys) h zero d below = no_lower x y h.0
variables_rise (x ∷ y ∷ ys) h (suc k) d below = variables_rise (y ∷ ys) h.1 k d (omega arith)

pub variables_ascend : (xs : List Literal) → IsClause xs → IsNonDecreasingBy (λ (l : Literal). l.variable) xs
variables_ascend xs h = IsNonDecreasingBy-from_all_adjacent (λ (l : Literal). l.variable) xs
    (λ k d below. let rise = variables_rise xs h k d (omega arith) in rw add-one rise)

module _ (p : Literal → Bool) where
  filter_none : (xs : List Literal) → ((k : ℕ) (d : Literal) → k < length xs → p (get_or xs k d) ≡ false) → filter p xs ≡ []
  filter_none [] fails = refl
  filter_none (x ∷ xs) fails = rw (fails zero x (omega arith)) (filter_none xs (λ k d h. fails (suc k) d (omega arith)))

  filter_whole : (xs : List Literal) → ((k : ℕ) (d : Literal) → k < length xs → p (get_or xs k d) ≡ true) → filter p xs ≡ xs
  filter_whole [] passes = refl
  filter_whole (x ∷ xs) passes =
      rw (passes zero x (omega arith)) (ap (λ (zs : List Literal). x ∷ zs) (filter_whole xs (λ k d h. passes (suc k) d (omega arith))))

  -- what passes is the front
  front_passes : (xs : List Literal) (i : ℕ) → ((k : ℕ) (d : Literal) → k < i → p (get_or xs k d) ≡ true) →
      ((k : ℕ) (d : Literal) → i ≤ k → k < length xs → p (get_or xs k d) ≡ false) → take i xs ≡ filter p xs
  front_passes xs zero front back = sym (filter_none xs (λ k d h. back k d (omega arith) h))
  front_passes [] (suc i) front back = refl
  front_passes (x ∷ xs) (suc i) front back =
      rw (front zero x (omega arith))
      (ap (λ (zs : List Literal). x ∷ zs) (front_passes xs i (λ k d h. front (suc k) d (omega arith)) (λ k d h b. back (suc k) d (omega arith) (omega arith))))

  -- what passes is the back
  back_passes : (xs : List Literal) (i : ℕ) → ((k : ℕ) (d : Literal) → k < i → p (get_or xs k d) ≡ false) →
      ((k : ℕ) (d : Literal) → i ≤ k → k < length xs → p (get_or xs k d) ≡ true) → drop i xs ≡ filter p xs
  back_passes xs zero front back = sym (filter_whole xs (λ k d h. back k d (omega arith) h))
  back_passes [] (suc i) front back = refl
  back_passes (x ∷ xs) (suc i) front back =
      rw (front zero x (omega arith)) (back_passes xs i (λ k d h. front (suc k) d (omega arith)) (λ k d h b. back (suc k) d (omega arith) (omega arith)))

pub lower_is_front : (xs : List Literal) (pivot i : ℕ) → IsPartitionPoint (λ y. ltb y.variable pivot ≡ true) (λ y. ltb y.variable pivot ≡ false) xs i →
    take i xs ≡ lower pivot xs
lower_is_front xs pivot i point = front_passes (is_lower pivot) xs i (λ k d h. point.0 k d (omega arith) h) point.1

pub higher_is_back : (xs : List Literal) (pivot i : ℕ) → IsPartitionPoint (λ y. leb y.variable pivot ≡ true) (λ y. leb y.variable pivot ≡ false) xs i →
    drop i xs ≡ higher pivot xs
higher_is_back xs pivot i point = back_passes (is_higher pivot) xs i
    (λ k d h. le-ltb pivot (get_or xs k d).variable (leb-true (get_or xs k d).variable pivot (point.0 k d (omega arith) h)))
    (λ k d h b. lt-ltb pivot (get_or xs k d).variable (leb-false (get_or xs k d).variable pivot (point.1 k d h b)))
