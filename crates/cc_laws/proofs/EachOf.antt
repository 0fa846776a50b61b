-- What holds of each element of a list, and elements by their numbers.
use Rattle.std.proofs.Common.{◌≡◌, ℕ, zero, suc, Bool, false, List, [], ◌∷◌, ◌++◌, map, Some, slice_get, refl}
use Rattle.std.specs.List.{AllByRecursion, list_any}

module _ {X : Type 0} where
  pub each_of_both : (P : X → Type 0) (xs ys : List X) → AllByRecursion P xs → AllByRecursion P ys → AllByRecursion P (xs ++ ys)
  each_of_both P [] ys first second = second
  each_of_both P (x ∷ xs) ys first second = (first.0, each_of_both P xs ys first.1 second)

  pub each_front : (P : X → Type 0) (xs ys : List X) → AllByRecursion P (xs ++ ys) → AllByRecursion P xs
  each_front P [] ys all = tt
  each_front P (x ∷ xs) ys all = (all.0, each_front P xs ys all.1)

  pub each_so : (P Q : X → Type 0) → ((x : X) → P x → Q x) → (xs : List X) → AllByRecursion P xs → AllByRecursion Q xs
  each_so P Q at [] all = tt
  each_so P Q at (x ∷ xs) all = (at x all.0, each_so P Q at xs all.1)

  pub each_twice : (P Q : X → Type 0) (xs : List X) → AllByRecursion P xs → AllByRecursion Q xs → AllByRecursion (λ x. P x × Q x) xs
  each_twice P Q [] first second = tt
  each_twice P Q (x ∷ xs) first second = ((first.0, second.0), each_twice P Q xs first.1 second.1)

  pub none_passes : (test : X → Bool) (xs : List X) → AllByRecursion (λ x. test x ≡ false) xs → list_any test xs ≡ false
  none_passes test [] all = refl
  none_passes test (x ∷ xs) all = rw (all.0) (none_passes test xs all.1)

  pub slice_front : (xs ys : List X) (k : ℕ) (x : X) → slice_get xs k ≡ Some x → slice_get (xs ++ ys) k ≡ Some x
  slice_front [] ys k x e = absurd cc
  slice_front (y ∷ xs) ys zero x e = e
  slice_front (y ∷ xs) ys (suc k) x e = slice_front xs ys k x e

module _ {X Y : Type 0} where
  pub each_mapped : (P : Y → Type 0) (f : X → Y) (xs : List X) → AllByRecursion (λ x. P (f x)) xs → AllByRecursion P (map f xs)
  each_mapped P f [] all = tt
  each_mapped P f (x ∷ xs) all = (all.0, each_mapped P f xs all.1)

  pub slice_mapped : (f : X → Y) (xs : List X) (k : ℕ) (y : Y) → slice_get (map f xs) k ≡ Some y → (x : X) × (slice_get xs k ≡ Some x) × (y ≡ f x)
  slice_mapped f [] k y e = absurd cc
  slice_mapped f (x ∷ xs) zero y e = (x, refl, cc)
  slice_mapped f (x ∷ xs) (suc k) y e = slice_mapped f xs k y e
