-- An ascending list of numbers is that of the items that pass a test, where it has just the numbers of these.
use Rattle.std.proofs.Common.{◌≡◌, ◌∙◌, ℕ, zero, suc, ◌+◌, ◌<◌, ◌≤◌, Bool, true, false, cond, ◌||◌, List, [], ◌∷◌, length, inl, inr, ◌⊎◌, refl, sym, ap, subst, arith}
use Rattle.std.specs.List.{AllByRecursion}
use Rattle.std.proofs.lemmas.Bool.{eq-eqb, ne_eqb}
use Rattle.cc_defs.specs.Declarations.{Pair, is_below, numbers_where}
use Rattle.cc_sorts.specs.declared.sorts.Sorts.TheInside.{Inside}
use Rattle.cc_sorts.specs.Dictionaries.{names_of}
use Rattle.cc_sorts.specs.Lists.{lists_of, list_at}
use Rattle.cc_sorts.specs.Numbers.{Ascends, has}
use Rattle.cc_sorts.specs.SortParts.{named_pairs}
use Rattle.cc_sorts.specs.SortViews.{SortsView, name_at}
use Rattle.cc_sorts.proofs.Reading.{IsKept, seen_inside, within, above_ascend, above_below}

abbrev AllFrom : ℕ → List ℕ → Type 0
AllFrom from xs = AllByRecursion (λ x. from ≤ x) xs

abbrev AllTo : ℕ → List ℕ → Type 0
AllTo to xs = AllByRecursion (λ x. x < to) xs

from_next : (from x : ℕ) (xs : List ℕ) → from ≤ x → AllByRecursion (λ y. x < y) xs → AllFrom (from + 1) xs
from_next from x [] p all = tt
from_next from x (y ∷ ys) p all = (omega (arith, all.0), from_next from x ys p all.1)

not_from : (from x : ℕ) (xs : List ℕ) → from < x → AllByRecursion (λ y. x < y) xs → AllFrom (from + 1) (x ∷ xs)
not_from from x xs p all = (omega arith, from_next from x xs (omega arith) all)

has_none : (from : ℕ) (xs : List ℕ) → AllFrom (from + 1) xs → has from xs ≡ false
has_none from [] all = refl
has_none from (x ∷ xs) all = ap (λ (b : Bool). b || has from xs) (ne_eqb x from (λ (same : x ≡ from). let less = all.0 in omega arith)) ∙ has_none from xs all.1

none_between : (from : ℕ) (xs : List ℕ) → AllFrom from xs → AllTo (from + 0) xs → xs ≡ []
none_between from [] low high = refl
none_between from (x ∷ xs) low high = let a = low.0 in let b = high.0 in absurd (omega arith)

same_or_less : (i j : ℕ) → i ≤ j → (i ≡ j) ⊎ (i < j)
same_or_less zero zero p = inl refl
same_or_less zero (suc j) p = inr (omega arith)
same_or_less (suc i) zero p = absurd (omega arith)
same_or_less (suc i) (suc j) p = elim (same_or_less i j (omega arith)) [ inl e ↦ inl (ap suc e) | inr e ↦ inr (omega arith) ]

next_to : (from n : ℕ) (xs : List ℕ) → AllTo (from + suc n) xs → AllTo (from + 1 + n) xs
next_to from n xs all = let same : from + suc n ≡ from + 1 + n = omega arith in subst (λ (to : ℕ). AllTo to xs) same all

next_number : (from j : ℕ) (xs : List ℕ) → has (from + 1 + j) xs ≡ has (from + suc j) xs
next_number from j xs = let same : from + 1 + j ≡ from + suc j = omega arith in ap (λ (k : ℕ). has k xs) same

first_number : (from : ℕ) (xs : List ℕ) → has from xs ≡ has (from + 0) xs
first_number from xs = let same : from ≡ from + 0 = omega arith in ap (λ (k : ℕ). has k xs) same

pub numbers_are : (test : List ℕ → Bool) (names : List (List ℕ)) (from : ℕ) (xs : List ℕ) → Ascends xs → AllFrom from xs → AllTo (from + length names) xs →
    ((j : ℕ) → j < length names → has (from + j) xs ≡ test (list_at names j)) → xs ≡ numbers_where test from names
numbers_are test [] from xs ascends low high those = none_between from xs low high
numbers_are test (name ∷ names) from [] ascends low high those =
    numbers_are test names (from + 1) [] tt tt tt (λ j hj. those (suc j) (omega arith))
    ∙ ap (λ (b : Bool). cond b (from ∷ numbers_where test (from + 1) names) (numbers_where test (from + 1) names)) (those 0 (omega arith))
numbers_are test (name ∷ names) from (x ∷ xs) ascends low high those = elim (same_or_less from x low.0) [
  | inl same ↦
      let is : has (from + 0) (x ∷ xs) ≡ true = sym (first_number from (x ∷ xs)) ∙ ap (λ (b : Bool). b || has from xs) (eq-eqb x from (sym same)) in
      let rest = numbers_are test names (from + 1) xs ascends.1 (from_next from x xs low.0 ascends.0) (next_to from (length names) xs high.1)
      (λ j hj. next_number from j xs
      ∙ ap (λ (b : Bool). b || has (from + suc j) xs) (sym (ne_eqb x (from + suc j) (λ (e : x ≡ from + suc j). omega arith)))
      ∙ those (suc j) (omega arith)) in
      ap (λ (k : ℕ). k ∷ xs) (sym same) ∙ ap (λ (l : List ℕ). from ∷ l) rest
      ∙ ap (λ (b : Bool). cond b (from ∷ numbers_where test (from + 1) names) (numbers_where test (from + 1) names)) (sym is ∙ those 0 (omega arith))
  | inr less ↦
      let all = not_from from x xs less ascends.0 in
      let is : has (from + 0) (x ∷ xs) ≡ false = sym (first_number from (x ∷ xs)) ∙ has_none from (x ∷ xs) all in
      numbers_are test names (from + 1) (x ∷ xs) ascends all (next_to from (length names) (x ∷ xs) high)
      (λ j hj. next_number from j (x ∷ xs) ∙ those (suc j) (omega arith))
      ∙ ap (λ (b : Bool). cond b (from ∷ numbers_where test (from + 1) names) (numbers_where test (from + 1) names)) (sym is ∙ those 0 (omega arith))
]

-- the sorts above one are those that it is below
pub above_are : (inside : Inside) (view : SortsView) → seen_inside inside ≡ view → (kept : IsKept inside) (sort : ℕ) → sort < length view.names →
    list_at (lists_of inside.above.items) sort ≡ numbers_where (λ name. is_below view.pairs (name_at view sort) name) 0 view.names
above_are inside view is kept sort there =
    let names : List (List ℕ) = names_of inside.names in
    let pairs : List Pair = named_pairs names inside.pairs.items in
    let here = within inside view is kept sort there in
    numbers_are (λ name. is_below pairs (list_at names sort) name) names 0 (list_at (lists_of inside.above.items) sort) (above_ascend inside view is kept sort there) (all_from_none (list_at (lists_of inside.above.items) sort))
    (subst (λ (to : ℕ). AllTo to (list_at (lists_of inside.above.items) sort)) (zero_more (length names)) (above_below inside view is kept sort there))
    (λ j hj. ap (λ (k : ℕ). has k (list_at (lists_of inside.above.items) sort)) (sym (zero_more j)) ∙ kept.above_are.those sort j here hj)
    ∙ ap (λ (v : SortsView). numbers_where (λ name. is_below v.pairs (name_at v sort) name) 0 v.names) is
  where
    zero_more : (n : ℕ) → n ≡ 0 + n
    zero_more n = omega arith

    all_from_none : (xs : List ℕ) → AllFrom 0 xs
    all_from_none [] = tt
    all_from_none (x ∷ xs) = (omega arith, all_from_none xs)
