-- Members of lists, and rows.
use Rattle.std.proofs.Common.{◌≡◌, ◌∙◌, ℕ, zero, suc, ◌+◌, ◌<◌, ◌⊎◌, inl, inr, Bool, true, false, ◌&&◌, List, [], ◌∷◌, ◌++◌, length, map, flat_map, filter, get_or, set, take, drop, slice_get, Some, refl, sym, ap, subst, arith}
use Rattle.std.specs.Prelude.{Contains, IsTrue, slice_index, if◌then◌else◌}
use Rattle.std.specs.List.{AllByRecursion, AllZip}
use Rattle.cc_defs.specs.Rows.{IsRow}
use Rattle.cc_defs.specs.Rules.{upto}

pub both_hold : (a b : Bool) → (a && b) ≡ true → (a ≡ true) × (b ≡ true)
both_hold true b e = (refl, e)
both_hold false b e = absurd cc

pub both : (a b : Bool) → a ≡ true → b ≡ true → (a && b) ≡ true
both true b p q = q
both false b p q = absurd cc

-- ---- members

abbrev pub In : {X : Type 0} → List X → X → Type 0
In [] x = ⊥
In (y ∷ ys) x = (y ≡ x) ⊎ In ys x

pub in_from : {X : Type 0} (xs : List X) (k : ℕ) (x : X) → k < length xs → get_or xs k x ≡ x → In xs x
in_from [] k x less e = absurd (omega arith)
in_from (y ∷ ys) zero x less e = inl e
in_from (y ∷ ys) (suc k) x less e = inr (in_from ys k x (omega arith) e)

pub contains_in : {X : Type 0} (xs : List X) (x : X) → Contains xs x → In xs x
contains_in xs x c = in_from xs c.0 x c.1 c.2

pub in_contains : {X : Type 0} (xs : List X) (x : X) → In xs x → Contains xs x
in_contains [] x i = absurd i
in_contains (y ∷ ys) x i = elim i [
  | inl e ↦ (0, omega arith, e)
  | inr more ↦ let c = in_contains ys x more in let less = c.1 in (suc c.0, omega arith, c.2)
]

pub in_left : {X : Type 0} (xs ys : List X) (x : X) → In xs x → In (xs ++ ys) x
in_left [] ys x i = absurd i
in_left (y ∷ xs) ys x i = elim i [ inl e ↦ inl e | inr more ↦ inr (in_left xs ys x more) ]

pub in_right : {X : Type 0} (xs ys : List X) (x : X) → In ys x → In (xs ++ ys) x
in_right [] ys x i = i
in_right (y ∷ xs) ys x i = inr (in_right xs ys x i)

pub in_either : {X : Type 0} (xs ys : List X) (x : X) → In (xs ++ ys) x → In xs x ⊎ In ys x
in_either [] ys x i = inr i
in_either (y ∷ xs) ys x i = elim i [
  | inl e ↦ inl (inl e)
  | inr more ↦ elim (in_either xs ys x more) [ inl left ↦ inl (inr left) | inr right ↦ inr right ]
]

pub in_flat : {X Y : Type 0} (f : Y → List X) (ys : List Y) (y : Y) (x : X) → In ys y → In (f y) x → In (flat_map f ys) x
in_flat f [] y x i j = absurd i
in_flat {X} f (z ∷ ys) y x i j = elim i [
  | inl e ↦ in_left (f z) (flat_map f ys) x (subst (λ w. In (f w) x) (sym e) j)
  | inr more ↦ in_right (f z) (flat_map f ys) x (in_flat f ys y x more j)
]

pub flat_in : {X Y : Type 0} (f : Y → List X) (ys : List Y) (x : X) → In (flat_map f ys) x → (y : Y) × In ys y × In (f y) x
flat_in f [] x i = absurd i
flat_in f (z ∷ ys) x i = elim (in_either (f z) (flat_map f ys) x i) [
  | inl here ↦ (z, inl refl, here)
  | inr later ↦ let found = flat_in f ys x later in (found.0, inr found.1, found.2)
]

pub in_map : {X Y : Type 0} (f : Y → X) (ys : List Y) (y : Y) → In ys y → In (map f ys) (f y)
in_map f [] y i = absurd i
in_map f (z ∷ ys) y i = elim i [ inl e ↦ inl (ap f e) | inr more ↦ inr (in_map f ys y more) ]

pub map_in : {X Y : Type 0} (f : Y → X) (ys : List Y) (x : X) → In (map f ys) x → (y : Y) × In ys y × (f y ≡ x)
map_in f [] x i = absurd i
map_in f (z ∷ ys) x i = elim i [
  | inl e ↦ (z, inl refl, e)
  | inr more ↦ let found = map_in f ys x more in (found.0, inr found.1, found.2)
]

pub in_upto : (n i : ℕ) → i < n → In (upto n) i
in_upto zero i less = absurd (omega arith)
in_upto (suc n) i less = elim (last n i less) [
  | inl below ↦ in_left (upto n) (n ∷ []) i (in_upto n i below)
  | inr same ↦ in_right (upto n) (n ∷ []) i (inl same)
]
  where
    last : (n i : ℕ) → i < suc n → (i < n) ⊎ (n ≡ i)
    last zero zero less = inr refl
    last zero (suc i) less = absurd (omega arith)
    last (suc n) zero less = inl (omega arith)
    last (suc n) (suc i) less = elim (last n i (omega arith)) [ inl below ↦ inl (omega arith) | inr same ↦ inr (ap suc same) ]

pub upto_in : (n i : ℕ) → In (upto n) i → i < n
upto_in zero i there = absurd there
upto_in (suc n) i there = elim (in_either (upto n) (n ∷ []) i there) [
  | inl before ↦ let less = upto_in n i before in omega arith
  | inr last ↦ elim last [ inl e ↦ omega arith | inr none ↦ absurd none ]
]

pub all_in : {X : Type 0} (P : X → Type 0) (xs : List X) → AllByRecursion P xs → (x : X) → In xs x → P x
all_in P [] all x i = absurd i
all_in P (y ∷ ys) all x i = elim i [ inl e ↦ subst P e all.0 | inr more ↦ all_in P ys all.1 x more ]

-- ---- what holds of each item

module _ {X : Type 0} (P : X → Type 0) where
  pub all_append : (xs ys : List X) → AllByRecursion P xs → AllByRecursion P ys → AllByRecursion P (xs ++ ys)
  all_append [] ys p q = q
  all_append (x ∷ xs) ys p q = (p.0, all_append xs ys p.1 q)

  pub all_left : (xs ys : List X) → AllByRecursion P (xs ++ ys) → AllByRecursion P xs
  all_left [] ys p = tt
  all_left (x ∷ xs) ys p = (p.0, all_left xs ys p.1)

  pub all_right : (xs ys : List X) → AllByRecursion P (xs ++ ys) → AllByRecursion P ys
  all_right [] ys p = p
  all_right (x ∷ xs) ys p = all_right xs ys p.1

  pub all_map : {Y : Type 0} (f : Y → X) (ys : List Y) → ((y : Y) → P (f y)) → AllByRecursion P (map f ys)
  all_map f [] each = tt
  all_map f (y ∷ ys) each = (each y, all_map f ys each)

  pub all_passing : {Y : Type 0} (f : Y → X) (test : Y → Bool) (ys : List Y) → ((y : Y) → IsTrue (test y) → P (f y)) → AllByRecursion P (map f (filter test ys))
  all_passing {Y} f test [] each = tt
  all_passing {Y} f test (y ∷ ys) each = here (test y) refl (all_passing f test ys each)
    where
      here : (passes : Bool) → test y ≡ passes → AllByRecursion P (map f (filter test ys)) → AllByRecursion P (map f (if passes then y ∷ filter test ys else filter test ys))
      here true e rest = (each y e, rest)
      here false e rest = rest

-- ---- two lists, place by place

module _ {X Y : Type 0} (R : X → Y → Type 0) where
  pub zip_append : (xs others : List X) (ys more : List Y) → AllZip R xs ys → AllZip R others more → AllZip R (xs ++ others) (ys ++ more)
  zip_append [] others [] more p q = q
  zip_append [] others (y ∷ ys) more p q = absurd p
  zip_append (x ∷ xs) others [] more p q = absurd p
  zip_append (x ∷ xs) others (y ∷ ys) more p q = (p.0, zip_append xs others ys more p.1 q)

  pub zip_map : {Z : Type 0} (f : Z → X) (g : Z → Y) (zs : List Z) → ((z : Z) → R (f z) (g z)) → AllZip R (map f zs) (map g zs)
  zip_map f g [] each = tt
  zip_map f g (z ∷ zs) each = (each z, zip_map f g zs each)

  pub zip_flat : {Z : Type 0} (f : Z → List X) (g : Z → List Y) (zs : List Z) → ((z : Z) → In zs z → AllZip R (f z) (g z)) → AllZip R (flat_map f zs) (flat_map g zs)
  zip_flat f g [] each = tt
  zip_flat f g (z ∷ zs) each = zip_append (f z) (flat_map f zs) (g z) (flat_map g zs) (each z (inl refl)) (zip_flat f g zs (λ y i. each y (inr i)))

-- ---- lists of lists

pub flat_same : {X Y : Type 0} (f g : X → List Y) (xs : List X) → ((x : X) → f x ≡ g x) → flat_map f xs ≡ flat_map g xs
flat_same f g [] same = refl
flat_same f g (x ∷ xs) same = ap (λ l. l ++ flat_map f xs) (same x) ∙ ap (λ l. g x ++ l) (flat_same f g xs same)

pub append_three : {X : Type 0} (xs ys zs : List X) → xs ++ (ys ++ zs) ≡ (xs ++ ys) ++ zs
append_three [] ys zs = refl
append_three (x ∷ xs) ys zs = ap (λ l. x ∷ l) (append_three xs ys zs)

flat_append : {X Y : Type 0} (f : X → List Y) (xs ys : List X) → flat_map f (xs ++ ys) ≡ flat_map f xs ++ flat_map f ys
flat_append f [] ys = refl
flat_append f (x ∷ xs) ys = ap (λ l. f x ++ l) (flat_append f xs ys) ∙ append_three (f x) (flat_map f xs) (flat_map f ys)

pub flat_flat : {X Y Z : Type 0} (f : Y → List Z) (g : X → List Y) (xs : List X) → flat_map f (flat_map g xs) ≡ flat_map (λ x. flat_map f (g x)) xs
flat_flat f g [] = refl
flat_flat f g (x ∷ xs) = flat_append f (g x) (flat_map g xs) ∙ ap (λ l. flat_map f (g x) ++ l) (flat_flat f g xs)

-- ---- places

pub got_left : {X : Type 0} (xs ys : List X) (i : ℕ) (x : X) → slice_get xs i ≡ Some x → slice_get (xs ++ ys) i ≡ Some x
got_left [] ys i x e = absurd cc
got_left (y ∷ xs) ys zero x e = e
got_left (y ∷ xs) ys (suc i) x e = got_left xs ys i x e

pub got_right : {X : Type 0} (xs ys : List X) (i : ℕ) → slice_get (xs ++ ys) (length xs + i) ≡ slice_get ys i
got_right [] ys i = let e : 0 + i ≡ i = omega arith in ap (slice_get ys) e
got_right (x ∷ xs) ys i = let e : suc (length xs) + i ≡ suc (length xs + i) = omega arith in ap (slice_get (x ∷ xs ++ ys)) e ∙ got_right xs ys i

pub got_either : {X : Type 0} (xs ys : List X) (i : ℕ) (x : X) → slice_get (xs ++ ys) i ≡ Some x →
    (slice_get xs i ≡ Some x) ⊎ ((j : ℕ) × (i ≡ length xs + j) × (slice_get ys j ≡ Some x))
got_either [] ys i x e = inr (i, omega arith, e)
got_either (y ∷ xs) ys zero x e = inl e
got_either (y ∷ xs) ys (suc i) x e = elim (got_either xs ys i x e) [
  | inl here ↦ inl here
  | inr behind ↦ let at = behind.1 in inr (behind.0, omega arith, behind.2)
]

pub map_got : {X Y : Type 0} (f : X → Y) (xs : List X) (i : ℕ) (y : Y) → slice_get (map f xs) i ≡ Some y → (x : X) × (slice_get xs i ≡ Some x) × (f x ≡ y)
map_got f [] i y e = absurd cc
map_got f (x ∷ xs) zero y e = (x, refl, cc)
map_got f (x ∷ xs) (suc i) y e = map_got f xs i y e

pub got_map : {X Y : Type 0} (f : X → Y) (xs : List X) (i : ℕ) (x : X) → slice_get xs i ≡ Some x → slice_get (map f xs) i ≡ Some (f x)
got_map f [] i x e = absurd cc
got_map f (y ∷ xs) zero x e = let same : y ≡ x = cc in ap (λ w. Some (f w)) same
got_map f (y ∷ xs) (suc i) x e = got_map f xs i x e

-- ---- rows

pub row_at : (sizes row : List ℕ) (p size : ℕ) → IsRow sizes row → slice_get sizes p ≡ Some size → (p < length row) × (slice_index row p < size)
row_at [] row p size is e = absurd cc
row_at (s ∷ sizes) [] p size is e = absurd is
row_at (s ∷ sizes) (v ∷ row) zero size is e = let same : s ≡ size = cc in (omega arith, subst (λ (n : ℕ). v < n) same is.0)
row_at (s ∷ sizes) (v ∷ row) (suc p) size is e = let more = row_at sizes row p size is.1 e in let less = more.0 in (omega arith, more.1)

pub row_set : (sizes row : List ℕ) (p size w : ℕ) → IsRow sizes row → slice_get sizes p ≡ Some size → w < size → IsRow sizes (set row p w)
row_set [] row p size w is e less = absurd cc
row_set (s ∷ sizes) [] p size w is e less = absurd is
row_set (s ∷ sizes) (v ∷ row) zero size w is e less = let same : size ≡ s = cc in (subst (λ (n : ℕ). w < n) same less, is.1)
row_set (s ∷ sizes) (v ∷ row) (suc p) size w is e less = (is.0, row_set sizes row p size w is.1 e less)

pub same_rows : (sizes a b : List ℕ) → IsRow sizes a → IsRow sizes b → ((p size : ℕ) → slice_get sizes p ≡ Some size → slice_index a p ≡ slice_index b p) → a ≡ b
same_rows [] [] [] is are same = refl
same_rows [] [] (w ∷ b) is are same = absurd are
same_rows [] (v ∷ a) b is are same = absurd is
same_rows (s ∷ sizes) [] b is are same = absurd is
same_rows (s ∷ sizes) (v ∷ a) [] is are same = absurd are
same_rows (s ∷ sizes) (v ∷ a) (w ∷ b) is are same =
    ap (λ (n : ℕ). n ∷ a) (same 0 s refl) ∙ ap (λ (l : List ℕ). w ∷ l) (same_rows sizes a b is.1 are.1 (λ p size e. same (suc p) size e))

pub row_take : (sizes more row : List ℕ) → IsRow (sizes ++ more) row → IsRow sizes (take (length sizes) row)
row_take [] more row is = tt
row_take (s ∷ sizes) more [] is = absurd is
row_take (s ∷ sizes) more (v ∷ row) is = (is.0, row_take sizes more row is.1)

pub row_drop : (sizes more row : List ℕ) → IsRow (sizes ++ more) row → IsRow more (drop (length sizes) row)
row_drop [] more row is = is
row_drop (s ∷ sizes) more [] is = absurd is
row_drop (s ∷ sizes) more (v ∷ row) is = row_drop sizes more row is.1
