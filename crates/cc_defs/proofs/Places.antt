-- A constant is found by halves where constants are in order.
use Rattle.std.proofs.Common.{◌≡◌, ℕ, zero, suc, ◌+◌, ◌-◌, ◌<◌, ◌≤◌, Bool, true, false, ◌&&◌, cond, eqb, List, [], ◌∷◌, ◌++◌, length, map, get_or, Some, None, option_map, refl, sym, ap, subst, ◌∙◌, arith, inl, inr, ◌⊎◌}
use Rattle.std.specs.Bool.{◌==◌}
use Rattle.std.specs.Ordering.{nat_cmp, ordering_index, ordering_reverse, is_eq}
use Rattle.std.specs.declared.cmp.Ordering.{Ordering}
use Rattle.std.specs.declared.cmp.Ordering.TheVariants.{Less, Equal, Greater}
use Rattle.std.specs.Cmp.Lexicographic.{slice_cmp, pointwise}
use Rattle.std.specs.List.{AllByRecursion, position_from, position_or_len}
use Rattle.std.proofs.lemmas.Iterator.Adapters.{position_from-zero}
use Rattle.std.specs.List.Sorted.{IsStrictlySortedBy, IsNonDecreasingBy}
use Rattle.std.proofs.lemmas.Bool.{cases_lt, lt-ltb, le-ltb}
use Rattle.std.proofs.lemmas.Cmp.{nat_list_cmp_total}
use Rattle.std.proofs.lemmas.List.Sums.{position_or_len_is}
use Rattle.std.proofs.lemmas.Map.Text.{is_eq-slice_cmp}
use Rattle.cc_defs.specs.declared.signature.Const.{Const}
use Rattle.cc_defs.specs.Signatures.{ground_number, place, AreOrdered}

abbrev order : List ℕ → List ℕ → Ordering
order a b = slice_cmp nat_cmp a b

-- ---- the order

less_below : (a b x : List ℕ) (r s : Ordering) → r ≡ order a x → s ≡ order b x → order a b ≡ Less → ordering_index r ≤ ordering_index s
less_below a b x r Less p q less = subst (λ (t : Ordering). ordering_index t ≤ 0) (sym (p ∙ nat_list_cmp_total.trans a b x less (sym q))) (omega arith)
less_below a b x r Equal p q less =
    let other : order b a ≡ order x a = nat_list_cmp_total.congr b x a (sym q) in
    let back : order b a ≡ Greater = nat_list_cmp_total.antisymm b a ∙ ap ordering_reverse less in
    let is_less : r ≡ Less = p ∙ nat_list_cmp_total.antisymm a x ∙ ap ordering_reverse (sym other ∙ back) in
    subst (λ (t : Ordering). ordering_index t ≤ 1) (sym is_less) (omega arith)
less_below a b x Less Greater p q less = omega arith
less_below a b x Equal Greater p q less = omega arith
less_below a b x Greater Greater p q less = omega arith

behind_less : (P : List ℕ → Type 0) (cs : List Const) (i : ℕ) (d : Const) → AllByRecursion P (map place cs) → i < length cs → P (place (get_or cs i d))
behind_less P [] i d all within = absurd (omega arith)
behind_less P (c ∷ cs) zero d all within = all.0
behind_less P (c ∷ cs) (suc i) d all within = behind_less P cs i d all.1 (omega arith)

ordered_at : (cs : List Const) (i j : ℕ) (d : Const) → AreOrdered cs → i < j → j < length cs → order (place (get_or cs i d)) (place (get_or cs j d)) ≡ Less
unfolding IsStrictlySortedBy
ordered_at [] i j d o less within = absurd (omega arith)
ordered_at (c ∷ cs) zero zero d o less within = absurd (omega arith)
ordered_at (c ∷ cs) zero (suc j) d o less within = behind_less (λ y. order (place c) y ≡ Less) cs j d o.0 (omega arith)
ordered_at (c ∷ cs) (suc i) zero d o less within = absurd (omega arith)
ordered_at (c ∷ cs) (suc i) (suc j) d o less within = ordered_at cs i j d o.1 (omega arith) (omega arith)

-- ---- order is seen from neighbours

all_above : (c d : Const) (cs : List Const) → order (place c) (place d) ≡ Less → AllByRecursion (λ y. order (place d) y ≡ Less) (map place cs) →
    AllByRecursion (λ y. order (place c) y ≡ Less) (map place cs)
all_above c d [] less all = tt
all_above c d (e ∷ cs) less all = (nat_list_cmp_total.trans (place c) (place d) (place e) less all.0, all_above c d cs less all.1)

abbrev pub AreNeighbours : ℕ → List Const → Type 0
AreNeighbours most cs = (d : Const) (j k : ℕ) → k ≡ j + 1 → k < most → order (place (get_or cs j d)) (place (get_or cs k d)) ≡ Less

pub from_neighbours : (cs : List Const) → AreNeighbours (length cs) cs → AreOrdered cs
unfolding IsStrictlySortedBy
from_neighbours [] each = tt
from_neighbours (c ∷ []) each = (tt, tt)
from_neighbours (c ∷ e ∷ cs) each =
    let behind = from_neighbours (e ∷ cs) (λ d j k is less. each d (suc j) (suc k) (omega arith) (omega arith)) in
    let less = each c 0 1 refl (omega arith) in
    ((less, all_above c e cs less behind.0), behind)

any_default : (cs : List Const) (i : ℕ) (d e : Const) → i < length cs → get_or cs i d ≡ get_or cs i e
any_default [] i d e less = absurd (omega arith)
any_default (c ∷ cs) zero d e less = refl
any_default (c ∷ cs) (suc i) d e less = any_default cs i d e (omega arith)

-- one more neighbour
pub neighbours_more : (cs : List Const) (i : ℕ) (a b : Const) → 0 < i → i < length cs → a ≡ get_or cs (i - 1) a → b ≡ get_or cs i b →
    order (place a) (place b) ≡ Less → AreNeighbours i cs → AreNeighbours (i + 1) cs
neighbours_more cs i a b some within a_is b_is less before d j k is most = elim (cases_lt k i) [
  | inl earlier ↦ before d j k is earlier
  | inr later ↦
      let here : k ≡ i = omega arith in
      let front : j ≡ i - 1 = omega arith in
      subst (λ (n : ℕ). order (place (get_or cs j d)) (place (get_or cs n d)) ≡ Less) (sym here)
      (subst (λ (n : ℕ). order (place (get_or cs n d)) (place (get_or cs i d)) ≡ Less) (sym front)
      (subst (λ (x : Const). order (place x) (place (get_or cs i d)) ≡ Less) (a_is ∙ any_default cs (i - 1) a d (omega arith))
      (subst (λ (x : Const). order (place a) (place x) ≡ Less) (b_is ∙ any_default cs i b d within) less)))
]

same_or_less : (i j : ℕ) → i ≤ j → (i ≡ j) ⊎ (i < j)
same_or_less zero zero p = inl refl
same_or_less zero (suc j) p = inr (omega arith)
same_or_less (suc i) zero p = absurd (omega arith)
same_or_less (suc i) (suc j) p = elim (same_or_less i j (omega arith)) [ inl e ↦ inl (ap suc e) | inr e ↦ inr (omega arith) ]

pub searchable : (cs : List Const) (key : List ℕ) → AreOrdered cs → IsNonDecreasingBy (λ c. ordering_index (order (place c) key)) cs
searchable cs key o i j d p within = elim (same_or_less i j p) [
  | inl e ↦ subst (λ (k : ℕ). ordering_index (order (place (get_or cs i d)) key) ≤ ordering_index (order (place (get_or cs k d)) key)) e (omega arith)
  | inr less ↦ less_below (place (get_or cs i d)) (place (get_or cs j d)) key _ _ refl refl (ordered_at cs i j d o less within)
]

-- ---- the constant that is looked for

abbrev matches : ℕ → List ℕ → Const → Bool
matches symbol args c = eqb c.symbol symbol && pointwise eqb c.args args

tells : (symbol : ℕ) (args : List ℕ) (c : Const) → is_eq (order (place c) (symbol ∷ args)) ≡ matches symbol args c
tells symbol args c = is_eq-slice_cmp (place c) (symbol ∷ args)

less_of_equal : (a b key : List ℕ) → order a b ≡ Less → order b key ≡ Equal → order a key ≡ Less
less_of_equal a b key less equal =
    nat_list_cmp_total.antisymm a key
    ∙ ap ordering_reverse (sym (nat_list_cmp_total.congr b key a equal) ∙ nat_list_cmp_total.antisymm b a ∙ ap ordering_reverse less)

no_match : (symbol : ℕ) (args : List ℕ) (c : Const) (r : Ordering) → r ≡ order (place c) (symbol ∷ args) → (r ≡ Equal → ⊥) → matches symbol args c ≡ false
no_match symbol args c Less p not_equal = sym (tells symbol args c) ∙ ap is_eq (sym p)
no_match symbol args c Equal p not_equal = absurd (not_equal refl)
no_match symbol args c Greater p not_equal = sym (tells symbol args c) ∙ ap is_eq (sym p)

pub first : (cs : List Const) (i : ℕ) (symbol : ℕ) (args : List ℕ) (d : Const) → AreOrdered cs → i < length cs → order (place (get_or cs i d)) (symbol ∷ args) ≡ Equal
    → ground_number cs symbol args ≡ Some i
first cs i symbol args d o within found =
    let key = symbol ∷ args in
    let before : (k : ℕ) → k < i → matches symbol args (get_or cs k d) ≡ false = λ k below.
    no_match symbol args (get_or cs k d) Less (sym (less_of_equal (place (get_or cs k d)) (place (get_or cs i d)) key (ordered_at cs k i d o below within) found)) (λ e. absurd cc) in
    let at : i < length cs → matches symbol args (get_or cs i d) ≡ true = λ _. sym (tells symbol args (get_or cs i d)) ∙ ap is_eq found in
    let is : position_or_len (matches symbol args) cs ≡ i = position_or_len_is (matches symbol args) cs i d (omega arith) before at in
    rw (is, lt-ltb i (length cs) within) refl

pub none : (cs : List Const) (symbol : ℕ) (args : List ℕ) (d : Const) → ((k : ℕ) → k < length cs → order (place (get_or cs k d)) (symbol ∷ args) ≡ Equal → ⊥) → ground_number cs symbol args ≡ None
none cs symbol args d not_equal =
    let all : (k : ℕ) → k < length cs → matches symbol args (get_or cs k d) ≡ false = λ k within.
    no_match symbol args (get_or cs k d) (order (place (get_or cs k d)) (symbol ∷ args)) refl (not_equal k within) in
    let is : position_or_len (matches symbol args) cs ≡ length cs = position_or_len_is (matches symbol args) cs (length cs) d (omega arith) all (λ less. absurd (omega arith)) in
    rw (is, le-ltb (length cs) (length cs) (omega arith)) refl

-- a constant that was met, and constants of which the last one stands before
pub first_met : (cs : List Const) (i : ℕ) (symbol : ℕ) (args : List ℕ) (c : Const) → AreOrdered cs → i < length cs → c ≡ get_or cs i c →
    order (place c) (symbol ∷ args) ≡ Equal → ground_number cs symbol args ≡ Some i
first_met cs i symbol args c o within is found =
    first cs i symbol args c o within (ap (λ (x : Const). order (place x) (symbol ∷ args)) (sym is) ∙ found)

index_less : (r : Ordering) → ordering_index r ≤ 0 → r ≡ Equal → ⊥
index_less Less low e = absurd cc
index_less Equal low e = absurd (omega arith)
index_less Greater low e = absurd cc

pub all_before : (cs : List Const) (symbol : ℕ) (args : List ℕ) (c : Const) → AreOrdered cs → 0 < length cs → c ≡ get_or cs (length cs - 1) c →
    order (place c) (symbol ∷ args) ≡ Less → ground_number cs symbol args ≡ None
all_before cs symbol args c o some is less =
    let key = symbol ∷ args in
    let last = length cs - 1 in
    let at : order (place (get_or cs last c)) key ≡ Less = ap (λ (x : Const). order (place x) key) (sym is) ∙ less in
    none cs symbol args c (λ k inside equal. index_less (order (place (get_or cs k c)) key)
    (subst (λ (r : Ordering). ordering_index (order (place (get_or cs k c)) key) ≤ ordering_index r) at
    (searchable cs key o k last c (omega arith) (omega arith))) equal)

pub tells_equal : (r : Ordering) → (ordering_index r == 1) ≡ true → r ≡ Equal
tells_equal Less e = absurd cc
tells_equal Equal e = refl
tells_equal Greater e = absurd cc

pub tells_less : (r : Ordering) → (ordering_index r == 0) ≡ true → r ≡ Less
tells_less Less e = refl
tells_less Equal e = absurd cc
tells_less Greater e = absurd cc

-- ---- two lists, one behind the other

sum_zero : (n : ℕ) → n ≡ n + 0
sum_zero n = omega arith

module _ {X : Type 0} (test : X → Bool) where
  found_before : (n i : ℕ) (xs ys : List X) → position_from test n xs ≡ Some i → position_from test n (xs ++ ys) ≡ Some i
  found_before n i [] ys e = absurd cc
  found_before n i (x ∷ xs) ys e = found_here n i xs ys (test x) e (found_before (n + 1) i xs ys)
    where
      found_here : (n i : ℕ) (xs ys : List X) (t : Bool) → cond t (Some n) (position_from test (n + 1) xs) ≡ Some i
          → (position_from test (n + 1) xs ≡ Some i → position_from test (n + 1) (xs ++ ys) ≡ Some i)
          → cond t (Some n) (position_from test (n + 1) (xs ++ ys)) ≡ Some i
      found_here n i xs ys true e more = e
      found_here n i xs ys false e more = more e

  found_behind : (n : ℕ) (xs ys : List X) → position_from test n xs ≡ None → position_from test n (xs ++ ys) ≡ position_from test (n + length xs) ys
  found_behind n [] ys e = ap (λ m. position_from test m ys) (sum_zero n)
  found_behind n (x ∷ xs) ys e = not_here n xs ys (test x) e (found_behind (n + 1) xs ys)
    where
      not_here : (n : ℕ) (xs ys : List X) (t : Bool) → cond t (Some n) (position_from test (n + 1) xs) ≡ None
          → (position_from test (n + 1) xs ≡ None → position_from test (n + 1) (xs ++ ys) ≡ position_from test (n + 1 + length xs) ys)
          → cond t (Some n) (position_from test (n + 1) (xs ++ ys)) ≡ position_from test (n + suc (length xs)) ys
      not_here n xs ys true e more = absurd cc
      not_here n xs ys false e more = let same : n + 1 + length xs ≡ n + suc (length xs) = omega arith in more e ∙ ap (λ m. position_from test m ys) same

  shifted : (n k : ℕ) (xs : List X) → position_from test (n + k) xs ≡ option_map (λ i. n + i) (position_from test k xs)
  shifted n k [] = refl
  shifted n k (x ∷ xs) = here n k xs (test x) (shifted n (k + 1) xs)
    where
      here : (n k : ℕ) (xs : List X) (t : Bool) → position_from test (n + (k + 1)) xs ≡ option_map (λ i. n + i) (position_from test (k + 1) xs)
          → cond t (Some (n + k)) (position_from test (n + k + 1) xs) ≡ option_map (λ i. n + i) (cond t (Some k) (position_from test (k + 1) xs))
      here n k xs true more = refl
      here n k xs false more = let same : n + k + 1 ≡ n + (k + 1) = omega arith in ap (λ m. position_from test m xs) same ∙ more

zero_sum : (n : ℕ) → 0 + n ≡ n + 0
zero_sum n = omega arith

pub in_first : (xs ys : List Const) (symbol : ℕ) (args : List ℕ) (i : ℕ) → ground_number xs symbol args ≡ Some i → ground_number (xs ++ ys) symbol args ≡ Some i
in_first xs ys symbol args i e =
    let test = matches symbol args in
    position_from-zero test (xs ++ ys) ∙ found_before test 0 i xs ys (sym (position_from-zero test xs) ∙ e)

pub in_second : (xs ys : List Const) (symbol : ℕ) (args : List ℕ) → ground_number xs symbol args ≡ None
    → ground_number (xs ++ ys) symbol args ≡ option_map (λ i. length xs + i) (ground_number ys symbol args)
in_second xs ys symbol args e =
    let test = matches symbol args in
    position_from-zero test (xs ++ ys) ∙ found_behind test 0 xs ys (sym (position_from-zero test xs) ∙ e)
    ∙ ap (λ m. position_from test m ys) (zero_sum (length xs))
    ∙ shifted test (length xs) 0 ys ∙ ap (option_map (λ i. length xs + i)) (sym (position_from-zero test ys))
