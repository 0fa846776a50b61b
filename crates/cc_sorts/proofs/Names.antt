-- Names in lists that grow at their end.
use Rattle.std.proofs.Common.{◌≡◌, ◌∙◌, ℕ, suc, ◌+◌, ◌<◌, Bool, true, false, ◌&&◌, ◌||◌, cond, List, [], ◌∷◌, ◌++◌, length, map, flat_map, Option, Some, None, slice_index_or, unwrap_or, refl, sym, ap, subst, arith, eqb}
use Rattle.std.specs.Prelude.{if◌then◌else◌, IsTrue}
use Rattle.std.specs.List.{AllByRecursion, list_any, position_from}
use Rattle.std.proofs.lemmas.Bool.{eqb-true, eq-eqb}
use Rattle.std.proofs.lemmas.Iterator.Adapters.{position_from-zero}
use Rattle.std.proofs.lemmas.List.{append-nil}
use Rattle.std.proofs.lemmas.List.Folds.{list_any-append}
use Rattle.std.proofs.lemmas.Grind.{flat_map-append}
use Rattle.cc_defs.specs.Declarations.{Pair, firsts_behind, number_in, is_below}
use Rattle.cc_defs.specs.Grammar.{same_text}
use Rattle.cc_sorts.specs.Dictionaries.{number_of}

-- ---- texts

pub same_is : (text other : List ℕ) → same_text text other ≡ true → text ≡ other
same_is [] [] e = refl
same_is [] (y ∷ ys) e = absurd cc
same_is (x ∷ xs) [] e = absurd cc
same_is (x ∷ xs) (y ∷ ys) e = both x y xs ys (eqb x y) refl e (same_is xs ys)
  where
    both : (x y : ℕ) (xs ys : List ℕ) (first : Bool) → eqb x y ≡ first → first && same_text xs ys ≡ true → (same_text xs ys ≡ true → xs ≡ ys) → x ∷ xs ≡ y ∷ ys
    both x y xs ys true f e more = let a : x ≡ y = eqb-true x y f in let b : xs ≡ ys = more e in cc
    both x y xs ys false f e more = absurd cc

pub same_self : (text : List ℕ) → same_text text text ≡ true
same_self [] = refl
same_self (x ∷ xs) = rw (eq-eqb x x refl, same_self xs) refl

-- ---- whether a name is there

abbrev pub is_among : List (List ℕ) → List ℕ → Bool
is_among names name = list_any (same_text name) names

pub or_left : (a b : Bool) → a ≡ true → a || b ≡ true
or_left true b e = refl
or_left false b e = absurd cc

pub or_right : (a b : Bool) → b ≡ true → a || b ≡ true
or_right true b e = refl
or_right false b e = e

pub or_false : (a b : Bool) → a || b ≡ false → (a ≡ false) × (b ≡ false)
or_false true b e = absurd cc
or_false false b e = (refl, e)

pub and_true : (a b : Bool) → a && b ≡ true → (a ≡ true) × (b ≡ true)
and_true true b e = (refl, e)
and_true false b e = absurd cc

pub any_front : {X : Type 0} (test : X → Bool) (xs ys : List X) → list_any test xs ≡ true → list_any test (xs ++ ys) ≡ true
any_front test xs ys e = list_any-append test xs ys ∙ or_left (list_any test xs) (list_any test ys) e

pub any_map : {X Y : Type 0} (test : Y → Bool) (f : X → Y) (xs : List X) → list_any test (map f xs) ≡ list_any (λ x. test (f x)) xs
any_map test f [] = refl
any_map test f (x ∷ xs) = ap (λ w. test (f x) || w) (any_map test f xs)

-- ---- the first of each name

pub or_turn : (s a f : Bool) → (s || a) || f ≡ (a || (s || f))
or_turn true true f = refl
or_turn true false f = refl
or_turn false true f = refl
or_turn false false f = refl

abbrev if_new : Bool → List ℕ → List (List ℕ)
if_new known name = if known then [] else name ∷ []

pub firsts_end : (seen xs : List (List ℕ)) (name : List ℕ) →
    firsts_behind seen (xs ++ name ∷ []) ≡ firsts_behind seen xs ++ (if (is_among seen name || is_among (firsts_behind seen xs) name) then [] else name ∷ [])
firsts_end seen [] name =
    elim (is_among seen name) as (λ known. (if known then [] else name ∷ []) ≡ (if (known || false) then [] else name ∷ [])) [ true ↦ refl | false ↦ refl ]
firsts_end seen (x ∷ xs) name = step seen x xs name (is_among seen x) (firsts_end seen xs name) (firsts_end (x ∷ seen) xs name)
  where
    step : (seen : List (List ℕ)) (x : List ℕ) (xs : List (List ℕ)) (name : List ℕ) (known : Bool) →
        firsts_behind seen (xs ++ name ∷ []) ≡ firsts_behind seen xs ++ if_new (is_among seen name || is_among (firsts_behind seen xs) name) name →
        firsts_behind (x ∷ seen) (xs ++ name ∷ []) ≡ firsts_behind (x ∷ seen) xs ++ if_new (is_among (x ∷ seen) name || is_among (firsts_behind (x ∷ seen) xs) name) name →
        (if known then firsts_behind seen (xs ++ name ∷ []) else x ∷ firsts_behind (x ∷ seen) (xs ++ name ∷ []))
        ≡ (if known then firsts_behind seen xs else x ∷ firsts_behind (x ∷ seen) xs)
        ++ if_new (is_among seen name || is_among (if known then firsts_behind seen xs else x ∷ firsts_behind (x ∷ seen) xs) name) name
    step seen x xs name true p q = p
    step seen x xs name false p q =
        ap (λ w. x ∷ w) (q ∙ ap (λ known. firsts_behind (x ∷ seen) xs ++ if_new known name) (or_turn (same_text name x) (is_among seen name) (is_among (firsts_behind (x ∷ seen) xs) name)))

pub flat_end : {X Y : Type 0} (f : X → List Y) (xs : List X) (x : X) → flat_map f (xs ++ x ∷ []) ≡ flat_map f xs ++ f x
flat_end f xs x = flat_map-append f xs (x ∷ []) ∙ ap (λ w. flat_map f xs ++ w) (append-nil (f x))

-- ---- numbers of names

module _ {X : Type 0} (test : X → Bool) where
  from_front : (n : ℕ) (xs ys : List X) → list_any test xs ≡ true → position_from test n (xs ++ ys) ≡ position_from test n xs
  from_front n [] ys e = absurd cc
  from_front n (x ∷ xs) ys e = step n xs ys (test x) e (from_front (n + 1) xs ys)
    where
      step : (n : ℕ) (xs ys : List X) (here : Bool) → here || list_any test xs ≡ true →
          (list_any test xs ≡ true → position_from test (n + 1) (xs ++ ys) ≡ position_from test (n + 1) xs) →
          cond here (Some n) (position_from test (n + 1) (xs ++ ys)) ≡ cond here (Some n) (position_from test (n + 1) xs)
      step n xs ys true e more = refl
      step n xs ys false e more = more e

  none_from : (n : ℕ) (xs : List X) → list_any test xs ≡ false → position_from test n xs ≡ None
  none_from n [] e = refl
  none_from n (x ∷ xs) e = step n xs (test x) e (none_from (n + 1) xs)
    where
      step : (n : ℕ) (xs : List X) (here : Bool) → here || list_any test xs ≡ false →
          (list_any test xs ≡ false → position_from test (n + 1) xs ≡ None) → cond here (Some n) (position_from test (n + 1) xs) ≡ None
      step n xs true e more = absurd cc
      step n xs false e more = more e

pub number_front : (names more : List (List ℕ)) (name : List ℕ) → is_among names name ≡ true → number_in (names ++ more) name ≡ number_in names name
number_front names more name e =
    let test = same_text name in
    ap (λ (found : Option ℕ). unwrap_or found 0) (position_from-zero test (names ++ more) ∙ from_front test 0 names more e ∙ sym (position_from-zero test names))

-- the number of a name behind others that it is not among
end_from : (test : List ℕ → Bool) (n : ℕ) (names : List (List ℕ)) (name : List ℕ) → test name ≡ true → list_any test names ≡ false → position_from test n (names ++ name ∷ []) ≡ Some (n + length names)
end_from test n [] name here e =
    let same : n ≡ n + 0 = omega arith in ap (λ (h : Bool). cond h (Some n) None) here ∙ ap (λ (k : ℕ). Some k) same
end_from test n (x ∷ names) name here e = step (test x) e (end_from test (n + 1) names name here)
  where
    step : (first : Bool) → first || list_any test names ≡ false → (list_any test names ≡ false → position_from test (n + 1) (names ++ name ∷ []) ≡ Some (n + 1 + length names)) →
        cond first (Some n) (position_from test (n + 1) (names ++ name ∷ [])) ≡ Some (n + suc (length names))
    step true e more = absurd cc
    step false e more = let same : n + 1 + length names ≡ n + suc (length names) = omega arith in more e ∙ ap (λ (k : ℕ). Some k) same

pub number_end : (names : List (List ℕ)) (name : List ℕ) → is_among names name ≡ false → number_in (names ++ name ∷ []) name ≡ length names
number_end names name e =
    ap (λ (found : Option ℕ). unwrap_or found 0) (position_from-zero (same_text name) (names ++ name ∷ []) ∙ end_from (same_text name) 0 names name (same_self name) e)
    ∙ zero_more (length names)
  where
    zero_more : (n : ℕ) → 0 + n ≡ n
    zero_more n = omega arith

pub not_there : (names : List (List ℕ)) (name : List ℕ) → is_among names name ≡ false → number_of names name ≡ None
not_there names name e = position_from-zero (same_text name) names ∙ none_from (same_text name) 0 names e

-- where a name that is there stands
pub record StandsAt (names : List (List ℕ)) (name : List ℕ) (n : ℕ) (found : Option ℕ) : Type 0 where
  pub number : ℕ
  pub is : found ≡ Some (n + number)
  pub named : slice_index_or names number [] ≡ name
  pub within : number < length names

stands_from : (n : ℕ) (names : List (List ℕ)) (name : List ℕ) → is_among names name ≡ true → StandsAt names name n (position_from (same_text name) n names)
stands_from n [] name e = absurd cc
stands_from n (first ∷ names) name e = step n first names name (same_text name first) refl e (stands_from (n + 1) names name)
  where
    step : (n : ℕ) (first : List ℕ) (names : List (List ℕ)) (name : List ℕ) (here : Bool) → same_text name first ≡ here → here || is_among names name ≡ true →
        (is_among names name ≡ true → StandsAt names name (n + 1) (position_from (same_text name) (n + 1) names)) →
        StandsAt (first ∷ names) name n (cond here (Some n) (position_from (same_text name) (n + 1) names))
    step n first names name true h e more = record {
      number = 0;
      is = let same : n ≡ n + 0 = omega arith in ap (λ (k : ℕ). Some k) same;
      named = sym (same_is name first h);
      within = omega arith;
    }
    step n first names name false h e more =
        let rest = more e in
        let same : n + 1 + rest.number ≡ n + suc rest.number = omega arith in
        record {
          number = suc rest.number;
          is = rest.is ∙ ap (λ (k : ℕ). Some k) same;
          named = rest.named;
          within = let p : rest.number < length names = rest.within in omega arith;
        }

pub record IsThere (names : List (List ℕ)) (name : List ℕ) : Type 0 where
  pub number : ℕ
  pub found : number_of names name ≡ Some number
  pub named : slice_index_or names number [] ≡ name
  pub within : number < length names
  pub is_number : number_in names name ≡ number

pub is_there : (names : List (List ℕ)) (name : List ℕ) → is_among names name ≡ true → IsThere names name
is_there names name e =
    let at = stands_from 0 names name e in
    let same : 0 + at.number ≡ at.number = omega arith in
    let found : number_of names name ≡ Some at.number = position_from-zero (same_text name) names ∙ at.is ∙ ap (λ (k : ℕ). Some k) same in
    record {
      number = at.number;
      found = found;
      named = at.named;
      within = at.within;
      is_number = ap (λ (f : Option ℕ). unwrap_or f 0) found;
    }

-- ---- below

and_false : (a b : Bool) → b ≡ false → a && b ≡ false
and_false true b e = e
and_false false b e = refl

abbrev pub AreAmong : List (List ℕ) → List Pair → Type 0
AreAmong names pairs = AllByRecursion (λ pair. IsTrue (is_among names pair.0 && is_among names pair.1)) pairs

other_text : (names : List (List ℕ)) (lower upper : List ℕ) (same : Bool) → same_text lower upper ≡ same → is_among names upper ≡ false → is_among names lower ≡ true → same ≡ false
other_text names lower upper true e new known =
    let P : List ℕ → Type 0 = λ w. is_among names w ≡ false in
    let p : is_among names lower ≡ false = subst P (sym (same_is lower upper e)) new in absurd (cc (p, known))
other_text names lower upper false e new known = refl

-- nothing that is there is below a name that is not
pub below_other : (names : List (List ℕ)) (pairs : List Pair) (lower upper : List ℕ) → is_among names upper ≡ false → is_among names lower ≡ true → AreAmong names pairs →
    is_below pairs lower upper ≡ false
below_other names [] lower upper new known all = other_text names lower upper (same_text lower upper) refl new known
below_other names (pair ∷ pairs) lower upper new known all =
    let first = and_true (is_among names pair.0) (is_among names pair.1) all.0 in
    let a : is_below pairs lower upper ≡ false = below_other names pairs lower upper new known all.1 in
    let b : is_below pairs pair.0 upper ≡ false = below_other names pairs pair.0 upper new first.0 all.1 in
    rw a (and_false (is_below pairs lower pair.1) (is_below pairs pair.0 upper) b)
