-- Members of lists, and lists place by place.
use Rattle.std.proofs.Common.{◌≡◌, ◌∙◌, ℕ, zero, suc, ◌+◌, ◌<◌, ◌⊎◌, inl, inr, Bool, true, false, ◌&&◌, ◌||◌, List, [], ◌∷◌, ◌++◌, length, drop, get_or, slice_get, Some, refl, sym, ap, subst, arith}
use Rattle.std.specs.Prelude.{Contains}
use Rattle.std.specs.List.{AllByRecursion, AllZip, list_all, list_any}
use Rattle.std.proofs.Math.Seq.{drop-cons}
use Rattle.cc_defs.specs.Declarations.{upto}

pub both_hold : (a b : Bool) → (a && b) ≡ true → (a ≡ true) × (b ≡ true)
both_hold true b e = (refl, e)
both_hold false b e = absurd cc

pub both : (a b : Bool) → a ≡ true → b ≡ true → (a && b) ≡ true
both true b p q = q
both false b p q = absurd cc

-- ---- members

abbrev pub In : {X : Type 0} → List X → X → Type 0
In [] x = ⊥
In (y ∷ ys) x = (y ≡ x) ⊎ In ys x

in_from : {X : Type 0} (xs : List X) (k : ℕ) (x : X) → k < length xs → get_or xs k x ≡ x → In xs x
in_from [] k x less e = absurd (omega arith)
in_from (y ∷ ys) zero x less e = inl e
in_from (y ∷ ys) (suc k) x less e = inr (in_from ys k x (omega arith) e)

pub contains_in : {X : Type 0} (xs : List X) (x : X) → Contains xs x → In xs x
contains_in xs x c = in_from xs c.0 x c.1 c.2

pub in_contains : {X : Type 0} (xs : List X) (x : X) → In xs x → Contains xs x
in_contains [] x i = absurd i
in_contains (y ∷ ys) x i = elim i [
  | inl e ↦ (0, omega arith, e)
  | inr more ↦ let c = in_contains ys x more in let less = c.1 in (suc c.0, omega arith, c.2)
]

pub in_left : {X : Type 0} (xs ys : List X) (x : X) → In xs x → In (xs ++ ys) x
in_left [] ys x i = absurd i
in_left (y ∷ xs) ys x i = elim i [ inl e ↦ inl e | inr more ↦ inr (in_left xs ys x more) ]

pub in_right : {X : Type 0} (xs ys : List X) (x : X) → In ys x → In (xs ++ ys) x
in_right [] ys x i = i
in_right (y ∷ xs) ys x i = inr (in_right xs ys x i)

in_either : {X : Type 0} (xs ys : List X) (x : X) → In (xs ++ ys) x → In xs x ⊎ In ys x
in_either [] ys x i = inr i
in_either (y ∷ xs) ys x i = elim i [
  | inl e ↦ inl (inl e)
  | inr more ↦ elim (in_either xs ys x more) [ inl left ↦ inl (inr left) | inr right ↦ inr right ]
]

pub in_upto : (n i : ℕ) → i < n → In (upto n) i
in_upto zero i less = absurd (omega arith)
in_upto (suc n) i less = elim (last n i less) [
  | inl below ↦ in_left (upto n) (n ∷ []) i (in_upto n i below)
  | inr same ↦ in_right (upto n) (n ∷ []) i (inl same)
]
  where
    last : (n i : ℕ) → i < suc n → (i < n) ⊎ (n ≡ i)
    last zero zero less = inr refl
    last zero (suc i) less = absurd (omega arith)
    last (suc n) zero less = inl (omega arith)
    last (suc n) (suc i) less = elim (last n i (omega arith)) [ inl below ↦ inl (omega arith) | inr same ↦ inr (ap suc same) ]

pub upto_in : (n i : ℕ) → In (upto n) i → i < n
upto_in zero i there = absurd there
upto_in (suc n) i there = elim (in_either (upto n) (n ∷ []) i there) [
  | inl before ↦ let less = upto_in n i before in omega arith
  | inr last ↦ elim last [ inl e ↦ omega arith | inr none ↦ absurd none ]
]

-- ---- tests of members

module _ {X : Type 0} (f : X → Bool) where
  pub all_in : (xs : List X) → list_all f xs ≡ true → (x : X) → In xs x → f x ≡ true
  all_in [] e x i = absurd i
  all_in (y ∷ ys) e x i =
      let parts = both_hold (f y) (list_all f ys) e in
      elim i [ inl is ↦ ap f (sym is) ∙ parts.0 | inr more ↦ all_in ys parts.1 x more ]

  pub in_all : (xs : List X) → ((x : X) → In xs x → f x ≡ true) → list_all f xs ≡ true
  in_all [] each = refl
  in_all (y ∷ ys) each = both (f y) (list_all f ys) (each y (inl refl)) (in_all ys (λ x i. each x (inr i)))

  first_or : (a b : Bool) → a ≡ true → (a || b) ≡ true
  first_or true b e = refl
  first_or false b e = absurd cc

  second_or : (a b : Bool) → b ≡ true → (a || b) ≡ true
  second_or true b e = refl
  second_or false b e = e

  pub in_any : (xs : List X) (x : X) → In xs x → f x ≡ true → list_any f xs ≡ true
  in_any [] x i e = absurd i
  in_any (y ∷ ys) x i e = elim i [
    | inl is ↦ first_or (f y) (list_any f ys) (ap f is ∙ e)
    | inr more ↦ second_or (f y) (list_any f ys) (in_any ys x more e)
  ]

  pub any_in : (xs : List X) → list_any f xs ≡ true → (x : X) × In xs x × (f x ≡ true)
  any_in [] e = absurd cc
  any_in (y ∷ ys) e = by (f y) refl e (λ later. any_in ys later)
    where
      by : (b : Bool) → f y ≡ b → (b || list_any f ys) ≡ true → (list_any f ys ≡ true → (x : X) × In ys x × (f x ≡ true)) → (x : X) × In (y ∷ ys) x × (f x ≡ true)
      by true is e rest = (y, inl refl, is)
      by false is e rest = let found = rest e in (found.0, inr found.1, found.2)

-- one that fails
pub fails_at : (f : ℕ → Bool) (n i : ℕ) → i < n → f i ≡ false → false ≡ list_all f (upto n)
fails_at f n i less fails = by (list_all f (upto n)) refl
  where
    by : (b : Bool) → list_all f (upto n) ≡ b → false ≡ list_all f (upto n)
    by true e = let p : false ≡ true = sym fails ∙ all_in f (upto n) e i (in_upto n i less) in absurd cc
    by false e = sym e

-- ---- two lists, place by place

module _ {A B : Type 0} (R : A → B → Type 0) where
  pub zip_front : (xs : List A) (ys : List B) (i : ℕ) (none : A) → i < length xs → AllZip R (drop i xs) ys →
      (y : B) × (rest : List B) × (ys ≡ y ∷ rest) × R (get_or xs i none) y × AllZip R (drop (i + 1) xs) rest
  zip_front xs ys i none less are = by ys (subst (λ (l : List A). AllZip R l ys) (drop-cons xs i none less) are)
    where
      by : (ys : List B) → AllZip R (get_or xs i none ∷ drop (suc i) xs) ys → (y : B) × (rest : List B) × (ys ≡ y ∷ rest) × R (get_or xs i none) y × AllZip R (drop (i + 1) xs) rest
      by [] are = absurd are
      by (y ∷ ys) are = (y, ys, refl, are.0, subst (λ (n : ℕ). AllZip R (drop n xs) ys) (let e : suc i ≡ i + 1 = omega arith in e) are.1)

  pub zip_at : (xs : List A) (ys : List B) (i : ℕ) (none : A) → AllZip R xs ys → i < length xs → (y : B) × (slice_get ys i ≡ Some y) × R (get_or xs i none) y
  zip_at [] ys i none are less = absurd (omega arith)
  zip_at (x ∷ xs) [] i none are less = absurd are
  zip_at (x ∷ xs) (y ∷ ys) zero none are less = (y, refl, are.0)
  zip_at (x ∷ xs) (y ∷ ys) (suc i) none are less = zip_at xs ys i none are.1 (omega arith)

  -- what follows of the items on the left holds of those on the right
  pub zip_all : (P : A → Type 0) (Q : B → Type 0) → ((x : A) (y : B) → R x y → P x → Q y) → (xs : List A) (ys : List B) → AllZip R xs ys →
      AllByRecursion P xs → (y : B) → In ys y → Q y
  zip_all P Q each [] [] are all y i = absurd i
  zip_all P Q each [] (z ∷ ys) are all y i = absurd are
  zip_all P Q each (x ∷ xs) [] are all y i = absurd are
  zip_all P Q each (x ∷ xs) (z ∷ ys) are all y i = elim i [
    | inl is ↦ subst Q is (each x z are.0 all.0)
    | inr more ↦ zip_all P Q each xs ys are.1 all.1 y more
  ]

-- ---- what holds of each item

module _ {X : Type 0} (P : X → Type 0) where
  pub all_at : (xs : List X) (i : ℕ) (none : X) → AllByRecursion P xs → i < length xs → P (get_or xs i none)
  all_at [] i none all less = absurd (omega arith)
  all_at (x ∷ xs) zero none all less = all.0
  all_at (x ∷ xs) (suc i) none all less = all_at xs i none all.1 (omega arith)

  pub all_behind : (xs : List X) (i : ℕ) (none : X) → i < length xs → AllByRecursion P (drop i xs) → AllByRecursion P (drop (i + 1) xs)
  all_behind xs i none less all =
      let both = subst (AllByRecursion P) (drop-cons xs i none less) all in
      subst (λ (n : ℕ). AllByRecursion P (drop n xs)) (let e : suc i ≡ i + 1 = omega arith in e) both.1

  pub first_behind : (xs : List X) (i : ℕ) (none : X) → i < length xs → AllByRecursion P (drop i xs) → P (get_or xs i none)
  first_behind xs i none less all = (subst (AllByRecursion P) (drop-cons xs i none less) all).0

  pub all_each : {Y : Type 0} (Q : Y → Type 0) (f : Y → X) → ((y : Y) → Q y → P (f y)) → (ys : List Y) → AllByRecursion Q ys → AllByRecursion (λ y. P (f y)) ys
  all_each Q f each [] all = tt
  all_each Q f each (y ∷ ys) all = (each y all.0, all_each Q f each ys all.1)
