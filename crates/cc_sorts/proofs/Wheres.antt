-- The numbers of the items that pass a test, in lists that grow and under tests that grow.
use Rattle.std.proofs.Common.{◌≡◌, ◌∙◌, ℕ, zero, suc, ◌+◌, ◌<◌, Bool, true, false, ◌||◌, List, [], ◌∷◌, ◌++◌, length, map, slice_index_or, refl, ap, arith}
use Rattle.std.specs.Prelude.{if◌then◌else◌}
use Rattle.std.specs.List.{AllByRecursion}
use Rattle.std.proofs.lemmas.Bool.{lt-ltb, le-ltb, ne_eqb, eq-eqb}
use Rattle.cc_defs.specs.Declarations.{Pair, numbers_where, is_below}
use Rattle.cc_sorts.specs.Numbers.{put, union}
use Rattle.cc_sorts.specs.SortViews.{changed_above}

module _ {X : Type 0} where
  -- an item behind the others
  pub where_end : (test : X → Bool) (n : ℕ) (xs : List X) (x : X) →
      numbers_where test n (xs ++ x ∷ []) ≡ numbers_where test n xs ++ (if test x then (n + length xs) ∷ [] else [])
  where_end test n [] x = let same : n ≡ n + 0 = omega arith in ap (λ (k : ℕ). if test x then k ∷ [] else []) same
  where_end test n (y ∷ ys) x = step n ys x (test y) (where_end test (n + 1) ys x)
    where
      step : (n : ℕ) (ys : List X) (x : X) (here : Bool) → numbers_where test (n + 1) (ys ++ x ∷ []) ≡ numbers_where test (n + 1) ys ++ (if test x then (n + 1 + length ys) ∷ [] else []) →
          (if here then n ∷ numbers_where test (n + 1) (ys ++ x ∷ []) else numbers_where test (n + 1) (ys ++ x ∷ []))
          ≡ (if here then n ∷ numbers_where test (n + 1) ys else numbers_where test (n + 1) ys) ++ (if test x then (n + suc (length ys)) ∷ [] else [])
      step n ys x here more =
          let same : n + 1 + length ys ≡ n + suc (length ys) = omega arith in
          let rest = more ∙ ap (λ (k : ℕ). numbers_where test (n + 1) ys ++ (if test x then k ∷ [] else [])) same in
          elim here as (λ h. (if h then n ∷ numbers_where test (n + 1) (ys ++ x ∷ []) else numbers_where test (n + 1) (ys ++ x ∷ []))
          ≡ (if h then n ∷ numbers_where test (n + 1) ys else numbers_where test (n + 1) ys) ++ (if test x then (n + suc (length ys)) ∷ [] else [])) [
            | true ↦ ap (λ (w : List ℕ). n ∷ w) rest
            | false ↦ rest
          ]

  pub where_same : (test other : X → Bool) (n : ℕ) (xs : List X) → ((x : X) → test x ≡ other x) → numbers_where test n xs ≡ numbers_where other n xs
  where_same test other n [] e = refl
  where_same test other n (x ∷ xs) e =
      rw (e x) (ap (λ (w : List ℕ). if other x then n ∷ w else w) (where_same test other (n + 1) xs e))

  pub where_none : (test : X → Bool) (n : ℕ) (xs : List X) → AllByRecursion (λ x. test x ≡ false) xs → numbers_where test n xs ≡ []
  where_none test n [] all = refl
  where_none test n (x ∷ xs) all = rw all.0 (where_none test (n + 1) xs all.1)

-- ---- the union of two

abbrev Above : ℕ → List ℕ → Type 0
Above bound list = AllByRecursion (λ member. bound < member) list

put_least : (x : ℕ) (ys : List ℕ) → Above x ys → put x ys ≡ x ∷ ys
put_least x [] all = refl
put_least x (y ∷ ys) all = rw (lt-ltb x y all.0) refl

put_same : (x : ℕ) (ys : List ℕ) → put x (x ∷ ys) ≡ x ∷ ys
put_same x ys = rw (le-ltb x x (omega arith), eq-eqb x x refl) refl

put_past : (x n : ℕ) (ys : List ℕ) → n < x → put x (n ∷ ys) ≡ n ∷ put x ys
put_past x n ys p = rw (le-ltb x n (omega arith), ne_eqb x n (λ same. omega arith)) refl

union_front : (n : ℕ) (xs ys : List ℕ) → Above n xs → union xs (n ∷ ys) ≡ n ∷ union xs ys
union_front n [] ys all = refl
union_front n (x ∷ xs) ys all = ap (put x) (union_front n xs ys all.1) ∙ put_past x n (union xs ys) all.0

module _ {X : Type 0} where
  where_above : (test : X → Bool) (bound n : ℕ) (xs : List X) → bound < n → Above bound (numbers_where test n xs)
  where_above test bound n [] p = tt
  where_above test bound n (x ∷ xs) p =
      elim (test x) as (λ here. Above bound (if here then n ∷ numbers_where test (n + 1) xs else numbers_where test (n + 1) xs)) [
        | true ↦ (p, where_above test bound (n + 1) xs (omega arith))
        | false ↦ where_above test bound (n + 1) xs (omega arith)
      ]

  pub where_or : (test other : X → Bool) (n : ℕ) (xs : List X) →
      union (numbers_where test n xs) (numbers_where other n xs) ≡ numbers_where (λ x. test x || other x) n xs
  where_or test other n [] = refl
  where_or test other n (x ∷ xs) =
      step n (numbers_where test (n + 1) xs) (numbers_where other (n + 1) xs) (numbers_where (λ x. test x || other x) (n + 1) xs) (test x) (other x)
      (where_above test n (n + 1) xs (omega arith)) (where_above (λ x. test x || other x) n (n + 1) xs (omega arith)) (where_or test other (n + 1) xs)
    where
      step : (n : ℕ) (ps qs rs : List ℕ) (p q : Bool) → Above n ps → Above n rs → union ps qs ≡ rs →
          union (if p then n ∷ ps else ps) (if q then n ∷ qs else qs) ≡ (if (p || q) then n ∷ rs else rs)
      step n ps qs rs true true a b e = ap (put n) (union_front n ps qs a ∙ ap (λ (w : List ℕ). n ∷ w) e) ∙ put_same n rs
      step n ps qs rs true false a b e = ap (put n) e ∙ put_least n rs b
      step n ps qs rs false true a b e = union_front n ps qs a ∙ ap (λ (w : List ℕ). n ∷ w) e
      step n ps qs rs false false a b e = e

-- ---- lists of members that change

pub changed_map : (pairs : List Pair) (sort : List ℕ) (change : List ℕ → List ℕ) (old new : List ℕ → List ℕ) (names : List (List ℕ)) →
    ((name : List ℕ) → (if is_below pairs sort name then change (old name) else old name) ≡ new name) →
    changed_above pairs sort change names (map old names) ≡ map new names
changed_map pairs sort change old new [] e = refl
changed_map pairs sort change old new (name ∷ names) e =
    let first = e name in
    let rest = changed_map pairs sort change old new names e in
    ap (λ (w : List ℕ). w ∷ changed_above pairs sort change names (map old names)) first ∙ ap (λ (w : List (List ℕ)). new name ∷ w) rest

pub at_map : (f : List ℕ → List ℕ) (names : List (List ℕ)) (i : ℕ) → i < length names → slice_index_or (map f names) i [] ≡ f (slice_index_or names i [])
at_map f [] i p = absurd (omega arith)
at_map f (name ∷ names) zero p = refl
at_map f (name ∷ names) (suc i) p = at_map f names i (omega arith)
