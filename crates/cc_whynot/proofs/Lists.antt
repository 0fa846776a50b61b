-- What holds of each item of a list.
use Rattle.std.proofs.Common.{◌≡◌, ◌∙◌, ℕ, zero, suc, ◌<◌, ◌⊎◌, inl, inr, Bool, true, false, ◌&&◌, List, [], ◌∷◌, ◌++◌, length, map, flat_map, filter, slice_get, refl, sym, ap, subst, arith}
use Rattle.std.specs.Prelude.{Contains, IfSome, IsTrue, if◌then◌else◌}
use Rattle.std.specs.List.{AllByRecursion, list_all}
use Rattle.cc_defs.specs.Declarations.{upto}

module _ {X : Type 0} (P : X → Type 0) where
  pub all_to : (xs : List X) → AllByRecursion P xs → (x : X) → Contains xs x → P x
  all_to [] all x (k, less, is) = absurd (omega arith)
  all_to (y ∷ ys) all x (zero, less, is) = subst P is all.0
  all_to (y ∷ ys) all x (suc k, less, is) = all_to ys all.1 x (k, omega arith, is)

  pub all_from : (xs : List X) → ((x : X) → Contains xs x → P x) → AllByRecursion P xs
  all_from [] each = tt
  all_from (x ∷ xs) each = (each x (0, omega arith, refl), all_from xs (λ y c. let less = c.1 in each y (suc c.0, omega arith, c.2)))

  pub all_parts : (xs ys : List X) → AllByRecursion P (xs ++ ys) → AllByRecursion P xs × AllByRecursion P ys
  all_parts [] ys all = (tt, all)
  all_parts (x ∷ xs) ys all = let parts = all_parts xs ys all.1 in ((all.0, parts.0), parts.1)

  pub all_behind : (xs ys : List X) → AllByRecursion P xs → AllByRecursion P ys → AllByRecursion P (xs ++ ys)
  all_behind [] ys all more = more
  all_behind (x ∷ xs) ys all more = (all.0, all_behind xs ys all.1 more)

  pub map_all : {Y : Type 0} (f : Y → X) (ys : List Y) → AllByRecursion P (map f ys) → AllByRecursion (λ y. P (f y)) ys
  map_all f [] all = tt
  map_all f (y ∷ ys) all = (all.0, map_all f ys all.1)

  pub all_map : {Y : Type 0} (f : Y → X) (ys : List Y) → AllByRecursion (λ y. P (f y)) ys → AllByRecursion P (map f ys)
  all_map f [] all = tt
  all_map f (y ∷ ys) all = (all.0, all_map f ys all.1)

  pub all_flat : {Y : Type 0} (f : Y → List X) (ys : List Y) → AllByRecursion (λ y. AllByRecursion P (f y)) ys → AllByRecursion P (flat_map f ys)
  all_flat f [] all = tt
  all_flat f (y ∷ ys) all = all_behind (f y) (flat_map f ys) all.0 (all_flat f ys all.1)

  pub all_each : ((x : X) → P x) → (xs : List X) → AllByRecursion P xs
  all_each each [] = tt
  all_each each (x ∷ xs) = (each x, all_each each xs)

  pub filter_all : (test : X → Bool) (xs : List X) → AllByRecursion P (filter test xs) → AllByRecursion (λ x. test x ≡ true → P x) xs
  filter_all test [] all = tt
  filter_all test (x ∷ xs) all = by (test x) refl all (λ more. filter_all test xs more)
    where
      by : (b : Bool) → test x ≡ b → AllByRecursion P (if b then x ∷ filter test xs else filter test xs) → (AllByRecursion P (filter test xs) → AllByRecursion (λ y. test y ≡ true → P y) xs) →
          AllByRecursion (λ y. test y ≡ true → P y) (x ∷ xs)
      by true e all rest = (λ so. all.0, rest all.1)
      by false e all rest = (λ so. let wrong : false ≡ true = sym e ∙ so in absurd cc, rest all)

  pub all_filter : (test : X → Bool) (xs : List X) → AllByRecursion (λ x. test x ≡ true → P x) xs → AllByRecursion P (filter test xs)
  all_filter test [] all = tt
  all_filter test (x ∷ xs) all = by (test x) refl (all_filter test xs all.1)
    where
      by : (b : Bool) → test x ≡ b → AllByRecursion P (filter test xs) → AllByRecursion P (if b then x ∷ filter test xs else filter test xs)
      by true e rest = (all.0 e, rest)
      by false e rest = rest

-- ---- numbers

module _ (P : ℕ → Type 0) where
  pub all_upto : (n : ℕ) → ((i : ℕ) → i < n → P i) → AllByRecursion P (upto n)
  all_upto zero each = tt
  all_upto (suc n) each = all_behind P (upto n) (n ∷ []) (all_upto n (λ i less. each i (omega arith))) (each n (omega arith), tt)

  pub upto_all : (n : ℕ) → AllByRecursion P (upto n) → (i : ℕ) → i < n → P i
  upto_all zero all i less = absurd (omega arith)
  upto_all (suc n) all i less = let parts = all_parts P (upto n) (n ∷ []) all in elim (cases_last n i less) [
    | inl below ↦ upto_all n parts.0 i below
    | inr same ↦ subst P same parts.1.0
  ]
    where
      cases_last : (n i : ℕ) → i < suc n → (i < n) ⊎ (n ≡ i)
      cases_last zero zero less = inr refl
      cases_last zero (suc i) less = absurd (omega arith)
      cases_last (suc n) zero less = inl (omega arith)
      cases_last (suc n) (suc i) less = elim (cases_last n i (omega arith)) [ inl below ↦ inl (omega arith) | inr same ↦ inr (ap suc same) ]

-- ---- tests of each item, by its place

module _ {X : Type 0} (test : X → Bool) where
  both : (a b : Bool) → IsTrue (a && b) → IsTrue a × IsTrue b
  both true b e = (refl, e)
  both false b e = absurd cc

  pub tests_hold : (xs : List X) → ((i : ℕ) → i < length xs → IfSome (slice_get xs i) (λ x. IsTrue (test x))) → IsTrue (list_all test xs)
  tests_hold [] each = refl
  tests_hold (x ∷ xs) each = by (test x) (each 0 (omega arith)) (tests_hold xs (λ i less. each (suc i) (omega arith)))
    where
      by : (b : Bool) → IsTrue b → IsTrue (list_all test xs) → IsTrue (b && list_all test xs)
      by true e rest = rest
      by false e rest = absurd cc

  pub test_holds : (xs : List X) → IsTrue (list_all test xs) → (i : ℕ) → IfSome (slice_get xs i) (λ x. IsTrue (test x))
  test_holds [] all i = tt
  test_holds (x ∷ xs) all zero = (both (test x) (list_all test xs) all).0
  test_holds (x ∷ xs) all (suc i) = test_holds xs (both (test x) (list_all test xs) all).1 i
