-- A sort is the upper one of a pair exactly where another sort is below it.
use Rattle.std.proofs.Common.{◌≡◌, ◌∙◌, ℕ, ◌<◌, ◌≤◌, Bool, true, false, ◌||◌, ◌&&◌, Some, None, List, [], ◌∷◌, length, get_or, refl, sym, ap, subst, arith}
use Rattle.std.specs.Prelude.{◌==◌, nat_lt, IsTrue}
use Rattle.std.specs.List.{AllByRecursion, list_any}
use Rattle.std.proofs.lemmas.Bool.{eq-eqb, eqb-true, lt-ltb, le-ltb, false≢true}
use Rattle.cc_defs.specs.Grammar.{same_text}
use Rattle.cc_defs.specs.Declarations.{Pair, is_below}
use Rattle.cc_sorts.specs.declared.sorts.SortPair.{SortPair}
use Rattle.cc_sorts.specs.Lists.{list_at}
use Rattle.cc_sorts.specs.Numbers.{Ascends, has}
use Rattle.cc_sorts.specs.SortParts.{named_behind, named_pairs, IsWithin, AreKept}
use Rattle.cc_sorts.specs.SortViews.{SortsView, name_at}
use Rattle.cc_sorts.proofs.Among.{has_at}
use Rattle.std.proofs.lemmas.List.Quantifiers.{position-Some}
use Rattle.std.specs.Cmp.Lexicographic.{bytes_decides}
use Rattle.cc_defs.specs.DeclarationFaults.{same_pair}
use Rattle.cc_sorts.specs.declared.sorts.Sorts.TheInside.{Inside}
use Rattle.cc_sorts.specs.Dictionaries.{number_of, names_of}
use Rattle.cc_sorts.proofs.Reading.{IsKept, seen_inside}
use Rattle.cc_sorts.proofs.Below.{alone_below, below_each, below_self}
use Rattle.cc_sorts.proofs.Pairs.{AreOthers, are_others, is_other}
use Rattle.cc_sorts.proofs.Vectors.{all_at, ascends_at}

-- a sort that is not below another is another
pub apart_numbers : (view : SortsView) (upper lower : ℕ) → is_below view.pairs (name_at view upper) (name_at view lower) ≡ false → (upper == lower) ≡ false
apart_numbers view upper lower apart = by (upper == lower) refl
  where
    by : (b : Bool) → (upper == lower) ≡ b → (upper == lower) ≡ false
    by false e = e
    by true e =
        let same : upper ≡ lower = eqb-true upper lower e in
        absurd (false≢true (sym apart ∙ ap (λ (k : ℕ). is_below view.pairs (name_at view upper) (name_at view k)) (sym same) ∙ below_self view.pairs (name_at view upper)))

-- ---- lists

one_or_none : (xs : List ℕ) (n : ℕ) → Ascends xs → ((k : ℕ) → k < length xs → get_or xs k 0 ≡ n) → length xs ≤ 1
one_or_none [] n ascends each = omega arith
one_or_none (x ∷ []) n ascends each = omega arith
one_or_none (x ∷ y ∷ ys) n ascends each =
    let first : x ≡ n = each 0 (omega arith) in
    let second : y ≡ n = each 1 (omega arith) in
    let less : x < y = ascends.0.0 in
    absurd (omega arith)

two : (xs : List ℕ) (a b : ℕ) → has a xs ≡ true → has b xs ≡ true → (a == b) ≡ false → 1 < length xs
two [] a b one other apart = absurd cc
two (x ∷ []) a b one other apart =
    let same_a : x ≡ a = eqb-true x a (or_left (x == a) one) in
    let same_b : x ≡ b = eqb-true x b (or_left (x == b) other) in
    absurd (false≢true (sym apart ∙ ap (λ (k : ℕ). a == k) (sym same_b ∙ same_a) ∙ eq-eqb a a refl))
  where
    or_left : (t : Bool) → (t || false) ≡ true → t ≡ true
    or_left true e = refl
    or_left false e = absurd cc
two (x ∷ y ∷ ys) a b one other apart = omega arith

any_all : {X : Type 0} (test : X → Bool) (P : X → Type 0) (xs : List X) → list_any test xs ≡ true → AllByRecursion P xs → (x : X) × (test x ≡ true) × P x
any_all test P [] any all = absurd cc
any_all test P (x ∷ xs) any all = by (test x) refl any (λ more. any_all test P xs more all.1)
  where
    by : (b : Bool) → test x ≡ b → (b || list_any test xs) ≡ true → (list_any test xs ≡ true → (y : _) × (test y ≡ true) × P y) → (y : _) × (test y ≡ true) × P y
    by true e found more = (x, e, all.0)
    by false e found more = more found

all_both : {X : Type 0} (P Q : X → Type 0) (xs : List X) → AllByRecursion P xs → AllByRecursion Q xs → AllByRecursion (λ x. P x × Q x) xs
all_both P Q [] p q = tt
all_both P Q (x ∷ xs) p q = ((p.0, q.0), all_both P Q xs p.1 q.1)

-- ---- pairs

-- the pair is that of two sorts by number, which are not the same
abbrev IsNumbered : List (List ℕ) → Pair → Type 0
IsNumbered names pair = (i : ℕ) × (j : ℕ) × (i < length names) × (j < length names) × ((i == j) ≡ false) × (pair.0 ≡ list_at names i) × (pair.1 ≡ list_at names j)

numbered_behind : (names : List (List ℕ)) (done : List Pair) (pairs : List SortPair) → AllByRecursion (IsWithin (length names)) pairs → AllByRecursion (IsNumbered names) done →
    AllByRecursion (IsNumbered names) (named_behind names done pairs)
numbered_behind names done [] all are = are
numbered_behind names done (pair ∷ pairs) all are =
    numbered_behind names ((list_at names pair.upper, list_at names pair.lower) ∷ done) pairs all.1
    ((pair.upper, pair.lower, all.0.0, all.0.1, all.0.2, refl, refl), are)

module _ (names : List (List ℕ)) (pairs known : List SortPair) (above below members : List (List ℕ)) (kept : AreKept names pairs known above below members)
    (n : ℕ) (hn : n < length names) where
  abbrev named : List Pair
  named = named_pairs names pairs

  abbrev is_upper : Bool
  is_upper = list_any (λ (pair : Pair). same_text (list_at names n) pair.0) named

  alone : is_upper ≡ false → length (list_at below n) ≤ 1
  alone none = one_or_none (list_at below n) n (ascends_at below n kept.below_are.ascend) (λ k within. each (get_or (list_at below n) k 0) (has_at (list_at below n) (get_or (list_at below n) k 0) k 0 within refl) (bound k within))
    where
      bound : (k : ℕ) → k < length (list_at below n) → get_or (list_at below n) k 0 < length names
      bound k within = all_at (λ m. m < length names) (list_at below n) k 0 (kept.below_are.within n hn) within

      each : (x : ℕ) → has x (list_at below n) ≡ true → x < length names → x ≡ n
      each x there hx = kept.distinct x n hx hn (sym (alone_below named (list_at names x) (list_at names n) none) ∙ sym (kept.below_are.those n x hn hx) ∙ there)

  others : is_upper ≡ true → 1 < length (list_at below n)
  others some =
      let found = any_all (λ (pair : Pair). same_text (list_at names n) pair.0) (λ pair. IsTrue (is_below named pair.1 pair.0) × IsNumbered names pair) named some
      (all_both (λ pair. IsTrue (is_below named pair.1 pair.0)) (IsNumbered names) named (below_each named) (numbered_behind names [] pairs kept.pairs_within tt)) in
      let numbers = found.2.1 in
      let same : n ≡ numbers.0 = kept.distinct n numbers.0 hn numbers.2 (subst (λ (text : List ℕ). same_text (list_at names n) text ≡ true) numbers.5 found.1) in
      let lower : has numbers.1 (list_at below n) ≡ true =
      kept.below_are.those n numbers.1 hn numbers.3
      ∙ ap (λ (k : ℕ). is_below named (list_at names numbers.1) (list_at names k)) same
      ∙ ap (λ (text : List ℕ). is_below named text (list_at names numbers.0)) (sym numbers.6)
      ∙ ap (λ (text : List ℕ). is_below named found.0.1 text) (sym numbers.5) ∙ found.2.0 in
      two (list_at below n) n numbers.1 (kept.below_are.those n n hn hn ∙ below_self named (list_at names n)) lower
      (subst (λ (k : ℕ). (k == numbers.1) ≡ false) (sym same) numbers.4)

  pub is_upper_is : nat_lt 1 (length (list_at below n)) ≡ is_upper
  is_upper_is = by is_upper refl
    where
      by : (b : Bool) → is_upper ≡ b → nat_lt 1 (length (list_at below n)) ≡ is_upper
      by true e = lt-ltb 1 (length (list_at below n)) (others e) ∙ sym e
      by false e = le-ltb 1 (length (list_at below n)) (alone e) ∙ sym e

-- ---- names

-- a name that was found is that of its number
pub found_name : (names : List (List ℕ)) (name : List ℕ) (number : ℕ) → number_of names name ≡ Some number → (number < length names) × (list_at names number ≡ name)
found_name names name number found =
    let there = position-Some (same_text name) names number [] found in
    (there.0, sym ((bytes_decides name (list_at names number)).0 there.1))

-- no pair has a name that is not there
no_upper : (name other : List ℕ) (pairs : List Pair) → AreOthers name pairs → list_any (same_pair (name, other)) pairs ≡ false
no_upper name other [] others = refl
no_upper name other (pair ∷ pairs) others = rw (others.0.0.0, no_upper name other pairs others.1) refl

no_lower : (name other : List ℕ) (pairs : List Pair) → AreOthers name pairs → list_any (same_pair (other, name)) pairs ≡ false
no_lower name other [] others = refl
no_lower name other (pair ∷ pairs) others =
    ap (λ (b : Bool). (same_text other pair.0 && b) || list_any (same_pair (other, name)) pairs) others.0.1.0
    ∙ ap (λ (b : Bool). b || list_any (same_pair (other, name)) pairs) (and_none (same_text other pair.0)) ∙ no_lower name other pairs others.1
  where
    and_none : (b : Bool) → (b && false) ≡ false
    and_none true = refl
    and_none false = refl

no_upper_alone : (name : List ℕ) (pairs : List Pair) → AreOthers name pairs → list_any (λ (pair : Pair). same_text name pair.0) pairs ≡ false
no_upper_alone name [] others = refl
no_upper_alone name (pair ∷ pairs) others = rw (others.0.0.0, no_upper_alone name pairs others.1) refl

module _ (inside : Inside) (view : SortsView) (is : seen_inside inside ≡ view) (kept : IsKept inside) (name : List ℕ) (none : number_of view.names name ≡ None) where
  are_other_pairs : AreOthers name view.pairs
  are_other_pairs =
      subst (λ (v : SortsView). AreOthers name v.pairs) is
      (are_others name (names_of inside.names) inside.pairs.items
      (is_other name (names_of inside.names) (ap (λ (v : SortsView). number_of v.names name) is ∙ none)) kept.pairs_within)

  pub without_upper : (other : List ℕ) → false ≡ list_any (same_pair (name, other)) view.pairs
  without_upper other = sym (no_upper name other view.pairs are_other_pairs)

  pub without_lower : (other : List ℕ) → false ≡ list_any (same_pair (other, name)) view.pairs
  without_lower other = sym (no_lower name other view.pairs are_other_pairs)

  pub without_any : false ≡ list_any (λ (pair : Pair). same_text name pair.0) view.pairs
  without_any = sym (no_upper_alone name view.pairs are_other_pairs)

-- the pair of two names that were found
pub named_pair : (view : SortsView) (upper lower : List ℕ) (i j : ℕ) → number_of view.names upper ≡ Some i → number_of view.names lower ≡ Some j →
    list_any (same_pair (name_at view i, name_at view j)) view.pairs ≡ list_any (same_pair (upper, lower)) view.pairs
named_pair view upper lower i j found other =
    ap (λ (text : List ℕ). list_any (same_pair (text, name_at view j)) view.pairs) (found_name view.names upper i found).1
    ∙ ap (λ (text : List ℕ). list_any (same_pair (upper, text)) view.pairs) (found_name view.names lower j other).1
