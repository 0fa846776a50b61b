-- What holds of each item of lists that are made of others.
use Rattle.std.proofs.Common.{◌≡◌, ℕ, zero, suc, ◌<◌, Bool, true, false, ◌&&◌, ◌||◌, List, [], ◌∷◌, ◌++◌, length, map, flat_map, get_or, filter, slice_get, Some, refl, subst, arith}
use Rattle.std.specs.Prelude.{if◌then◌else◌, IsTrue, IsFalse}
use Rattle.std.specs.List.{AllByRecursion, AllZip, list_any}

pub both_hold : (a b : Bool) → (a && b) ≡ true → (a ≡ true) × (b ≡ true)
both_hold true b e = (refl, e)
both_hold false b e = absurd cc

module _ {X : Type 0} (P : X → Type 0) where
  pub all_append : (xs ys : List X) → AllByRecursion P xs → AllByRecursion P ys → AllByRecursion P (xs ++ ys)
  all_append [] ys p q = q
  all_append (x ∷ xs) ys p q = (p.0, all_append xs ys p.1 q)

  pub all_at : (xs : List X) (i : ℕ) (d : X) → AllByRecursion P xs → i < length xs → P (get_or xs i d)
  all_at [] i d p within = absurd (omega arith)
  all_at (x ∷ xs) zero d p within = p.0
  all_at (x ∷ xs) (suc i) d p within = all_at xs i d p.1 (omega arith)

  pub all_got : (xs : List X) (i : ℕ) (x : X) → AllByRecursion P xs → slice_get xs i ≡ Some x → P x
  all_got [] i x p e = absurd cc
  all_got (y ∷ ys) zero x p e = let same : y ≡ x = cc in subst P same p.0
  all_got (y ∷ ys) (suc i) x p e = all_got ys i x p.1 e

  pub all_map : {Y : Type 0} (f : Y → X) (ys : List Y) → ((y : Y) → P (f y)) → AllByRecursion P (map f ys)
  all_map f [] each = tt
  all_map f (y ∷ ys) each = (each y, all_map f ys each)

  -- of those that pass a test
  pub all_passing : {Y : Type 0} (f : Y → X) (test : Y → Bool) (ys : List Y) → ((y : Y) → IsTrue (test y) → P (f y)) → AllByRecursion P (map f (filter test ys))
  all_passing {Y} f test [] each = tt
  all_passing {Y} f test (y ∷ ys) each = here (test y) refl (all_passing f test ys each)
    where
      here : (passes : Bool) → test y ≡ passes → AllByRecursion P (map f (filter test ys)) → AllByRecursion P (map f (if passes then y ∷ filter test ys else filter test ys))
      here true e rest = (each y e, rest)
      here false e rest = rest

  pub all_kept : (test : X → Bool) (xs : List X) → AllByRecursion P xs → AllByRecursion P (filter test xs)
  all_kept test [] all = tt
  all_kept test (x ∷ xs) all = here (test x) (all_kept test xs all.1)
    where
      here : (passes : Bool) → AllByRecursion P (filter test xs) → AllByRecursion P (if passes then x ∷ filter test xs else filter test xs)
      here true rest = (all.0, rest)
      here false rest = rest

  pub all_parts : (xs ys : List X) → AllByRecursion P (xs ++ ys) → AllByRecursion P xs × AllByRecursion P ys
  all_parts [] ys all = (tt, all)
  all_parts (x ∷ xs) ys all = let more = all_parts xs ys all.1 in ((all.0, more.0), more.1)

  -- of what is made of items of which something else holds
  pub all_made : {Y : Type 0} (Q : Y → Type 0) (f : Y → X) (ys : List Y) → ((y : Y) → Q y → P (f y)) → AllByRecursion Q ys → AllByRecursion P (map f ys)
  all_made Q f [] each all = tt
  all_made Q f (y ∷ ys) each all = (each y all.0, all_made Q f ys each all.1)

  -- the items of all lists, where they hold of those of each
  pub all_flat : {Y : Type 0} (f : Y → List X) (ys : List Y) → AllByRecursion (λ y. AllByRecursion P (f y)) ys → AllByRecursion P (flat_map f ys)
  all_flat f [] each = tt
  all_flat f (y ∷ ys) each = all_append (f y) (flat_map f ys) each.0 (all_flat f ys each.1)

pub all_since : {X : Type 0} (P Q : X → Type 0) (xs : List X) → ((x : X) → P x → Q x) → AllByRecursion P xs → AllByRecursion Q xs
all_since P Q [] since p = tt
all_since P Q (x ∷ xs) since p = (since x p.0, all_since P Q xs since p.1)

-- where none passes a test, each fails it
pub each_fails : {X : Type 0} (test : X → Bool) (xs : List X) → IsFalse (list_any test xs) → AllByRecursion (λ x. IsFalse (test x)) xs
each_fails test [] none = tt
each_fails test (x ∷ xs) none = let both = neither (test x) (list_any test xs) none in (both.0, each_fails test xs both.1)
  where
    neither : (a b : Bool) → (a || b) ≡ false → (a ≡ false) × (b ≡ false)
    neither true b none = absurd cc
    neither false b none = (refl, none)

pub zip_append : {X Y : Type 0} (R : X → Y → Type 0) (xs others : List X) (ys more : List Y) → AllZip R xs ys → AllZip R others more → AllZip R (xs ++ others) (ys ++ more)
zip_append R [] others [] more p q = q
zip_append R [] others (y ∷ ys) more p q = absurd p
zip_append R (x ∷ xs) others [] more p q = absurd p
zip_append R (x ∷ xs) others (y ∷ ys) more p q = (p.0, zip_append R xs others ys more p.1 q)
