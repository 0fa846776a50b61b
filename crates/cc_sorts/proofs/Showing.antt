-- What is shown of lists of puts that grow.
use Rattle.std.proofs.Common.{◌≡◌, ◌∙◌, ℕ, zero, suc, ◌+◌, ◌<◌, ◌≢◌, ◌⊎◌, inl, inr, Bool, true, false, not, ◌||◌, cond, List, [], ◌∷◌, ◌++◌, length, map, slice_set, refl, sym, subst, ap, arith}
use Rattle.std.specs.Prelude.{if◌then◌else◌, ◌==◌}
use Rattle.std.specs.List.{AllByRecursion, filter}
use Rattle.std.proofs.lemmas.Bool.{eq-eqb, ne_eqb}
use Rattle.std.proofs.lemmas.Bool.Decides.{eqb_tells}
use Rattle.std.proofs.lemmas.List.{get_or-set_same, get_or-set_other, ext_get_or, map-append, length-map}
use Rattle.std.proofs.Math.ListN.{length-set}
use Rattle.cc_defs.specs.Declarations.{Pair, firsts, is_below, numbers_where}
use Rattle.cc_sorts.specs.declared.table.PutAt.{PutAt}
use Rattle.cc_sorts.specs.Lists.{list_at, at_each, AreBelow}
use Rattle.cc_sorts.specs.Numbers.{Ascends, has}
use Rattle.cc_sorts.specs.Shown.{owner, shown_list, shown_lists, put_end, set_each}
use Rattle.cc_sorts.specs.SortViews.{SortsView, changed_above, name_at, with_object, IsPast}
use Rattle.cc_sorts.proofs.Changing.{each_is_above}
use Rattle.cc_sorts.proofs.Wheres.{at_map}

-- ---- each number at its first place

abbrev others : ℕ → List ℕ → List ℕ
others number list = filter (λ other. not (other == number)) list

filter_append : (test : ℕ → Bool) (xs ys : List ℕ) → filter test (xs ++ ys) ≡ filter test xs ++ filter test ys
filter_append test [] ys = refl
filter_append test (x ∷ xs) ys = step (test x) (filter_append test xs ys)
  where
    step : (here : Bool) → filter test (xs ++ ys) ≡ filter test xs ++ filter test ys →
        cond here (x ∷ filter test (xs ++ ys)) (filter test (xs ++ ys)) ≡ cond here (x ∷ filter test xs) (filter test xs) ++ filter test ys
    step true e = ap (λ (w : List ℕ). x ∷ w) e
    step false e = e

other_has : (number x : ℕ) (list : List ℕ) → (number == x) ≡ false → has x (others number list) ≡ has x list
other_has number x [] e = refl
other_has number x (y ∷ ys) e = elim (eqb_tells y number) [
  | inl same ↦ rw same.0 (other_has number x ys e ∙ ap (λ (b : Bool). b || has x ys) (sym (ap (λ (n : ℕ). n == x) same.1 ∙ e)))
  | inr differ ↦ rw differ.0 (ap (λ (b : Bool). (y == x) || b) (other_has number x ys e))
]

other_same : (number x : ℕ) → number ≡ x → others number (x ∷ []) ≡ []
other_same number x e = rw (eq-eqb x number (sym e)) refl

other_kept : (number x : ℕ) → (number == x) ≡ false → others number (x ∷ []) ≡ x ∷ []
other_kept number x e = elim (eqb_tells x number) [
  | inl same ↦ absurd (cc (e, eq-eqb number x (sym same.1)))
  | inr differ ↦ rw differ.0 refl
]

abbrev end_if : Bool → ℕ → List ℕ → List ℕ
end_if there x list = if there then list else list ++ x ∷ []

append_nil : (xs : List ℕ) → xs ++ [] ≡ xs
append_nil [] = refl
append_nil (x ∷ xs) = ap (λ (w : List ℕ). x ∷ w) (append_nil xs)

pub firsts_end : (xs : List ℕ) (x : ℕ) → firsts (xs ++ x ∷ []) ≡ put_end x (firsts xs)
firsts_end [] x = refl
firsts_end (y ∷ ys) x = ap (λ (w : List ℕ). y ∷ others y w) (firsts_end ys x) ∙ first (eqb_tells y x)
  where
    -- the first is the same number
    same : y ≡ x → (there : Bool) → others y (end_if there x (firsts ys)) ≡ others y (firsts ys)
    same e true = refl
    same e false = filter_append (λ (other : ℕ). not (other == y)) (firsts ys) (x ∷ []) ∙ ap (λ (w : List ℕ). others y (firsts ys) ++ w) (other_same y x e) ∙ append_nil (others y (firsts ys))

    other : (y == x) ≡ false → (there : Bool) → others y (end_if there x (firsts ys)) ≡ end_if there x (others y (firsts ys))
    other e true = refl
    other e false = filter_append (λ (other : ℕ). not (other == y)) (firsts ys) (x ∷ []) ∙ ap (λ (w : List ℕ). others y (firsts ys) ++ w) (other_kept y x e)

    joined : (there : Bool) → end_if there x (y ∷ others y (firsts ys)) ≡ y ∷ end_if there x (others y (firsts ys))
    joined true = refl
    joined false = refl

    first : ((y == x) ≡ true) × (y ≡ x) ⊎ ((y == x) ≡ false) × (y ≢ x) → y ∷ others y (put_end x (firsts ys)) ≡ put_end x (y ∷ others y (firsts ys))
    first (inl e) =
        ap (λ (w : List ℕ). y ∷ w) (same e.1 (has x (firsts ys)))
        ∙ sym (ap (λ (b : Bool). end_if (b || has x (others y (firsts ys))) x (y ∷ others y (firsts ys))) e.0)
    first (inr e) =
        ap (λ (w : List ℕ). y ∷ w) (other e.0 (has x (firsts ys)))
        ∙ ap (λ (b : Bool). y ∷ end_if b x (others y (firsts ys))) (sym (other_has y x (firsts ys) e.0))
        ∙ sym (joined (has x (others y (firsts ys))))
        ∙ sym (ap (λ (b : Bool). end_if (b || has x (others y (firsts ys))) x (y ∷ others y (firsts ys))) e.0)

-- ---- what holds of all that is shown

module _ (P : ℕ → Type 0) where
  all_filter : (test : ℕ → Bool) (xs : List ℕ) → AllByRecursion P xs → AllByRecursion P (filter test xs)
  all_filter test [] all = tt
  all_filter test (x ∷ xs) all = elim (test x) as (λ here. AllByRecursion P (cond here (x ∷ filter test xs) (filter test xs))) [
    | true ↦ (all.0, all_filter test xs all.1)
    | false ↦ all_filter test xs all.1
  ]

  pub all_firsts : (xs : List ℕ) → AllByRecursion P xs → AllByRecursion P (firsts xs)
  all_firsts [] all = tt
  all_firsts (x ∷ xs) all = (all.0, all_filter (λ (other : ℕ). not (other == x)) (firsts xs) (all_firsts xs all.1))

  owner_all : (puts : List PutAt) (number : ℕ) → AllByRecursion (λ put. P put.object) puts → number < length puts → P (owner puts number)
  owner_all [] number all within = absurd (omega arith)
  owner_all (put ∷ puts) zero all within = all.0
  owner_all (put ∷ puts) (suc number) all within = owner_all puts number all.1 (omega arith)

  pub owners_all : (puts : List PutAt) (list : List ℕ) → AllByRecursion (λ put. P put.object) puts → AreBelow (length puts) list → AllByRecursion P (map (owner puts) list)
  owners_all puts [] all below = tt
  owners_all puts (number ∷ list) all below = (owner_all puts number all below.0, owners_all puts list all below.1)

pub not_below : (x : ℕ) (xs : List ℕ) → AllByRecursion (λ y. y < x) xs → has x xs ≡ false
not_below x [] all = refl
not_below x (y ∷ ys) all = ap (λ (b : Bool). b || has x ys) (ne_eqb y x (λ (same : y ≡ x). let less = all.0 in omega arith)) ∙ not_below x ys all.1

-- an object that is past those of all puts is not shown
pub fresh_list : (puts : List PutAt) (object : ℕ) (list : List ℕ) → AllByRecursion (λ put. put.object < object) puts → AreBelow (length puts) list → has object (shown_list puts list) ≡ false
fresh_list puts object list all below =
    not_below object (shown_list puts list) (all_firsts (λ y. y < object) (map (owner puts) list) (owners_all (λ y. y < object) puts list all below))

pub fresh_lists : (puts : List PutAt) (object : ℕ) (lists : List (List ℕ)) → AllByRecursion (λ put. put.object < object) puts → AllByRecursion (AreBelow (length puts)) lists →
    AllByRecursion (λ list. has object list ≡ false) (shown_lists puts lists)
fresh_lists puts object [] all below = tt
fresh_lists puts object (list ∷ lists) all below = (fresh_list puts object list all below.0, fresh_lists puts object lists all below.1)

-- ---- a put behind the others

owner_front : (puts : List PutAt) (put : PutAt) (number : ℕ) → number < length puts → owner (puts ++ put ∷ []) number ≡ owner puts number
owner_front [] put number within = absurd (omega arith)
owner_front (first ∷ puts) put zero within = refl
owner_front (first ∷ puts) put (suc number) within = owner_front puts put number (omega arith)

owner_end : (puts : List PutAt) (put : PutAt) → owner (puts ++ put ∷ []) (length puts) ≡ put.object
owner_end [] put = refl
owner_end (first ∷ puts) put = owner_end puts put

owners_front : (puts : List PutAt) (put : PutAt) (list : List ℕ) → AreBelow (length puts) list → map (owner (puts ++ put ∷ [])) list ≡ map (owner puts) list
owners_front puts put [] below = refl
owners_front puts put (number ∷ list) below =
    ap (λ (n : ℕ). n ∷ map (owner (puts ++ put ∷ [])) list) (owner_front puts put number below.0)
    ∙ ap (λ (w : List ℕ). owner puts number ∷ w) (owners_front puts put list below.1)

pub shown_front : (puts : List PutAt) (put : PutAt) (list : List ℕ) → AreBelow (length puts) list → shown_list (puts ++ put ∷ []) list ≡ shown_list puts list
shown_front puts put list below = ap firsts (owners_front puts put list below)

shown_end : (puts : List PutAt) (put : PutAt) (list : List ℕ) → AreBelow (length puts) list →
    shown_list (puts ++ put ∷ []) (list ++ length puts ∷ []) ≡ put_end put.object (shown_list puts list)
shown_end puts put list below =
    ap firsts (map-append (owner (puts ++ put ∷ [])) list (length puts ∷ [])
    ∙ ap (λ (w : List ℕ). w ++ owner (puts ++ put ∷ []) (length puts) ∷ []) (owners_front puts put list below)
    ∙ ap (λ (n : ℕ). map (owner puts) list ++ n ∷ []) (owner_end puts put))
    ∙ firsts_end (map (owner puts) list) put.object

shown_above : (puts : List PutAt) (put : PutAt) (pairs : List Pair) (sort : List ℕ) (names lists : List (List ℕ)) → AllByRecursion (AreBelow (length puts)) lists →
    changed_above pairs sort (put_end put.object) names (shown_lists puts lists)
    ≡ shown_lists (puts ++ put ∷ []) (changed_above pairs sort (λ list. list ++ length puts ∷ []) names lists)
shown_above puts put pairs sort [] lists below = refl
shown_above puts put pairs sort (name ∷ names) [] below = refl
shown_above puts put pairs sort (name ∷ names) (list ∷ lists) below =
    ap (λ (w : List ℕ). w ∷ changed_above pairs sort (put_end put.object) names (shown_lists puts lists)) (here (is_below pairs sort name))
    ∙ ap (λ (w : List (List ℕ)). shown_list (puts ++ put ∷ []) (if is_below pairs sort name then list ++ length puts ∷ [] else list) ∷ w) (shown_above puts put pairs sort names lists below.1)
  where
    here : (above : Bool) → (if above then put_end put.object (shown_list puts list) else shown_list puts list) ≡ shown_list (puts ++ put ∷ []) (if above then list ++ length puts ∷ [] else list)
    here true = sym (shown_end puts put list below.0)
    here false = sym (shown_front puts put list below.0)

-- ---- the numbers of the names that pass a test

module _ (test : List ℕ → Bool) where
  low_where : (bound n : ℕ) (xs : List (List ℕ)) → bound < n → AllByRecursion (λ y. bound < y) (numbers_where test n xs)
  low_where bound n [] p = tt
  low_where bound n (x ∷ xs) p = elim (test x) as (λ here. AllByRecursion (λ y. bound < y) (if here then n ∷ numbers_where test (n + 1) xs else numbers_where test (n + 1) xs)) [
    | true ↦ (p, low_where bound (n + 1) xs (omega arith))
    | false ↦ low_where bound (n + 1) xs (omega arith)
  ]

  pub where_ascends : (n : ℕ) (xs : List (List ℕ)) → Ascends (numbers_where test n xs)
  where_ascends n [] = tt
  where_ascends n (x ∷ xs) = elim (test x) as (λ here. Ascends (if here then n ∷ numbers_where test (n + 1) xs else numbers_where test (n + 1) xs)) [
    | true ↦ (low_where n (n + 1) xs (omega arith), where_ascends (n + 1) xs)
    | false ↦ where_ascends (n + 1) xs
  ]

  within_from : (n : ℕ) (xs : List (List ℕ)) → AreBelow (n + length xs) (numbers_where test n xs)
  within_from n [] = tt
  within_from n (x ∷ xs) =
      let same : n + 1 + length xs ≡ n + suc (length xs) = omega arith in
      let rest : AreBelow (n + suc (length xs)) (numbers_where test (n + 1) xs) = subst (λ (k : ℕ). AreBelow k (numbers_where test (n + 1) xs)) same (within_from (n + 1) xs) in
      elim (test x) as (λ here. AreBelow (n + suc (length xs)) (if here then n ∷ numbers_where test (n + 1) xs else numbers_where test (n + 1) xs)) [
        | true ↦ (omega arith, rest)
        | false ↦ rest
      ]

  pub where_within : (xs : List (List ℕ)) → AreBelow (length xs) (numbers_where test 0 xs)
  where_within xs = let same : 0 + length xs ≡ length xs = omega arith in subst (λ (k : ℕ). AreBelow k (numbers_where test 0 xs)) same (within_from 0 xs)

  has_low : (x : ℕ) (xs : List ℕ) → AllByRecursion (λ y. x < y) xs → has x xs ≡ false
  has_low x [] all = refl
  has_low x (y ∷ ys) all = ap (λ (b : Bool). b || has x ys) (ne_eqb y x (λ (same : y ≡ x). let less = all.0 in omega arith)) ∙ has_low x ys all.1

  has_from : (n j : ℕ) (xs : List (List ℕ)) → j < length xs → has (n + j) (numbers_where test n xs) ≡ test (list_at xs j)
  has_from n j [] p = absurd (omega arith)
  has_from n zero (x ∷ xs) p =
      let same : n ≡ n + 0 = omega arith in
      ap (λ (k : ℕ). has k (numbers_where test n (x ∷ xs))) (sym same) ∙ here (test x)
    where
      here : (passes : Bool) → has n (if passes then n ∷ numbers_where test (n + 1) xs else numbers_where test (n + 1) xs) ≡ passes
      here true = ap (λ (b : Bool). b || has n (numbers_where test (n + 1) xs)) (eq-eqb n n refl)
      here false = has_low n (numbers_where test (n + 1) xs) (low_where n (n + 1) xs (omega arith))
  has_from n (suc j) (x ∷ xs) p =
      let same : n + suc j ≡ n + 1 + j = omega arith in
      ap (λ (k : ℕ). has k (numbers_where test n (x ∷ xs))) same ∙ here (test x) ∙ has_from (n + 1) j xs (omega arith)
    where
      here : (passes : Bool) → has (n + 1 + j) (if passes then n ∷ numbers_where test (n + 1) xs else numbers_where test (n + 1) xs) ≡ has (n + 1 + j) (numbers_where test (n + 1) xs)
      here true = ap (λ (b : Bool). b || has (n + 1 + j) (numbers_where test (n + 1) xs)) (ne_eqb n (n + 1 + j) (λ (same : n ≡ n + 1 + j). omega arith))
      here false = refl

  pub where_has : (j : ℕ) (xs : List (List ℕ)) → j < length xs → has j (numbers_where test 0 xs) ≡ test (list_at xs j)
  where_has j xs p = let same : j ≡ 0 + j = omega arith in ap (λ (k : ℕ). has k (numbers_where test 0 xs)) same ∙ has_from 0 j xs p

-- ---- the lists behind a put

pub shown_put : (puts : List PutAt) (put : PutAt) (sorts : SortsView) (sort : ℕ) (lists : List (List ℕ)) → length sorts.members ≡ length sorts.names → IsPast (length puts) sorts →
    lists ≡ shown_lists puts sorts.members →
    at_each (numbers_where (λ name. is_below sorts.pairs (name_at sorts sort) name) 0 sorts.names) (put_end put.object) lists
    ≡ shown_lists (puts ++ put ∷ []) (with_object sorts sort (length puts)).members
shown_put puts put sorts sort lists count past is =
    let test : List ℕ → Bool = λ name. is_below sorts.pairs (name_at sorts sort) name in
    let numbers = numbers_where test 0 sorts.names in
    let many : length (shown_lists puts sorts.members) ≡ length sorts.names = length-map sorts.members (shown_list puts) ∙ count in
    ap (at_each numbers (put_end put.object)) is
    ∙ each_is_above (put_end put.object) sorts.pairs (name_at sorts sort) sorts.names (shown_lists puts sorts.members) numbers many (where_ascends test 0 sorts.names)
    (subst (λ (n : ℕ). AreBelow n numbers) (sym many) (where_within test sorts.names)) (λ i p. where_has test i sorts.names p)
    ∙ shown_above puts put sorts.pairs (name_at sorts sort) sorts.names sorts.members past

-- ---- the lists behind a pair

length_set : (numbers : List ℕ) (made : ℕ → List ℕ) (lists : List (List ℕ)) → length (set_each numbers made lists) ≡ length lists
length_set [] made lists = refl
length_set (number ∷ numbers) made lists = length_set numbers made (slice_set lists number (made number)) ∙ length-set lists number (made number)

set_at : (numbers : List ℕ) (made : ℕ → List ℕ) (lists : List (List ℕ)) (i : ℕ) → AreBelow (length lists) numbers →
    list_at (set_each numbers made lists) i ≡ cond (has i numbers) (made i) (list_at lists i)
set_at [] made lists i within = refl
set_at (number ∷ numbers) made lists i within =
    let new : List (List ℕ) = slice_set lists number (made number) in
    let count : length lists ≡ length new = sym (length-set lists number (made number)) in
    set_at numbers made new i (subst (λ (n : ℕ). AreBelow n numbers) count within.1) ∙ step (has i numbers) (eqb_tells number i)
  where
    step : (more : Bool) → ((number == i) ≡ true) × (number ≡ i) ⊎ ((number == i) ≡ false) × (number ≢ i) →
        cond more (made i) (list_at (slice_set lists number (made number)) i) ≡ cond ((number == i) || more) (made i) (list_at lists i)
    step more (inl same) =
        ap (λ (w : List ℕ). cond more (made i) w)
        (ap (list_at (slice_set lists number (made number))) (sym same.1) ∙ get_or-set_same lists number (made number) [] within.0 ∙ ap made same.1)
        ∙ both more ∙ sym (ap (λ (b : Bool). cond (b || more) (made i) (list_at lists i)) same.0)
      where
        both : (b : Bool) → cond b (made i) (made i) ≡ made i
        both true = refl
        both false = refl
    step more (inr other) =
        ap (λ (w : List ℕ). cond more (made i) w) (get_or-set_other lists number i (made number) [] (λ same. other.1 (sym same)))
        ∙ sym (ap (λ (b : Bool). cond (b || more) (made i) (list_at lists i)) other.0)

changed_at : (change : List ℕ → List ℕ) (pairs : List Pair) (sort : List ℕ) (names lists : List (List ℕ)) (i : ℕ) → length lists ≡ length names → i < length lists →
    list_at (changed_above pairs sort change names lists) i ≡ cond (is_below pairs sort (list_at names i)) (change (list_at lists i)) (list_at lists i)
changed_at change pairs sort [] [] i same within = absurd (omega arith)
changed_at change pairs sort [] (list ∷ lists) i same within = absurd (omega arith)
changed_at change pairs sort (name ∷ names) [] i same within = absurd (omega arith)
changed_at change pairs sort (name ∷ names) (list ∷ lists) zero same within = refl
changed_at change pairs sort (name ∷ names) (list ∷ lists) (suc i) same within = changed_at change pairs sort names lists i (omega arith) (omega arith)

pub length_changed : (change : List ℕ → List ℕ) (pairs : List Pair) (sort : List ℕ) (names lists : List (List ℕ)) → length lists ≡ length names →
    length (changed_above pairs sort change names lists) ≡ length names
length_changed change pairs sort [] [] e = refl
length_changed change pairs sort [] (list ∷ lists) e = absurd (omega (arith, e))
length_changed change pairs sort (name ∷ names) [] e = absurd (omega (arith, e))
length_changed change pairs sort (name ∷ names) (list ∷ lists) e = ap suc (length_changed change pairs sort names lists (omega (arith, e)))

-- lists that are filled anew where members were changed are those of all members
module _ (puts : List PutAt) (change : List ℕ → List ℕ) (pairs : List Pair) (sort : List ℕ) (names members new lists : List (List ℕ)) (count : length members ≡ length names)
    (is : lists ≡ shown_lists puts members) (is_new : new ≡ changed_above pairs sort change names members) where
  abbrev filled : List ℕ
  filled = numbers_where (λ name. is_below pairs sort name) 0 names

  abbrev made : ℕ → List ℕ
  made number = shown_list puts (list_at new number)

  many : length lists ≡ length names
  many = ap length is ∙ length-map members (shown_list puts) ∙ count

  grown : length new ≡ length names
  grown = ap length is_new ∙ length_changed change pairs sort names members count

  kept : (i : ℕ) → i < length names → (above : Bool) → is_below pairs sort (list_at names i) ≡ above → cond above (made i) (list_at lists i) ≡ shown_list puts (list_at new i)
  kept i p true e = refl
  kept i p false e =
      ap (λ (w : List (List ℕ)). list_at w i) is ∙ at_map (shown_list puts) members i (omega (arith, count))
      ∙ ap (shown_list puts)
      (sym (ap (λ (w : List (List ℕ)). list_at w i) is_new ∙ changed_at change pairs sort names members i count (omega (arith, count))
      ∙ ap (λ (b : Bool). cond b (change (list_at members i)) (list_at members i)) e))

  at : (i : ℕ) → i < length names → list_at (set_each filled made lists) i ≡ list_at (shown_lists puts new) i
  at i p =
      set_at filled made lists i (subst (λ (n : ℕ). AreBelow n filled) (sym many) (where_within (λ name. is_below pairs sort name) names))
      ∙ ap (λ (b : Bool). cond b (made i) (list_at lists i)) (where_has (λ name. is_below pairs sort name) i names p)
      ∙ kept i p (is_below pairs sort (list_at names i)) refl
      ∙ sym (at_map (shown_list puts) new i (omega (arith, grown)))

  pub shown_filled : set_each filled made lists ≡ shown_lists puts new
  shown_filled =
      ext_get_or [] (set_each filled made lists) (shown_lists puts new) (length_set filled made lists ∙ many ∙ sym (length-map new (shown_list puts) ∙ grown))
      (λ i below. let within : i < length names = omega (arith, length_set filled made lists, many, below) in at i within)
