-- Tests of lists of texts.
use Rattle.std.proofs.Common.{◌≡◌, ◌∙◌, ℕ, suc, ◌+◌, ◌<◌, length, slice_get, arith, Bool, true, false, cond, ◌||◌, List, [], ◌∷◌, map, Some, None, is_some, refl, sym, ap}
use Rattle.std.specs.List.{list_any, find, position_from}
use Rattle.std.proofs.lemmas.Option.{slice_get_within}
use Rattle.std.proofs.lemmas.Iterator.Adapters.{position_from-zero}
use Rattle.cc_defs.specs.Grammar.{same_text}
use Rattle.cc_sorts.specs.Dictionaries.{number_of}

is_some_from : {X : Type 0} (test : X → Bool) (n : ℕ) (xs : List X) → is_some (position_from test n xs) ≡ list_any test xs
is_some_from test n [] = refl
is_some_from test n (x ∷ xs) = elim (test x) as (λ b. is_some (cond b (Some n) (position_from test (n + 1) xs)) ≡ (b || list_any test xs)) [ true ↦ refl | false ↦ is_some_from test (n + 1) xs ]

-- a name has a number where it is among the names
pub is_some_number : (names : List (List ℕ)) (name : List ℕ) → is_some (number_of names name) ≡ list_any (same_text name) names
is_some_number names name = ap is_some (position_from-zero (same_text name) names) ∙ is_some_from (same_text name) 0 names

-- an item at the number that its name has
pub record IsAt {X : Type 0} (name : List ℕ) (text : X → List ℕ) (n : ℕ) (xs : List X) (k : ℕ) : Type 0 where
  pub index : ℕ
  pub item : X
  pub is_index : k ≡ n + index
  pub found : find (λ x. same_text name (text x)) xs ≡ Some item
  pub there : slice_get xs index ≡ Some item

at_from : {X : Type 0} (name : List ℕ) (text : X → List ℕ) (n : ℕ) (xs : List X) (k : ℕ) →
    position_from (same_text name) n (map text xs) ≡ Some k → IsAt name text n xs k
at_from name text n [] k e = absurd cc
at_from {X} name text n (x ∷ xs) k e = here (same_text name (text x)) refl e (at_from name text (n + 1) xs k)
  where
    here : (same : Bool) → same_text name (text x) ≡ same → cond same (Some n) (position_from (same_text name) (n + 1) (map text xs)) ≡ Some k →
        (position_from (same_text name) (n + 1) (map text xs) ≡ Some k → IsAt name text (n + 1) xs k) → IsAt name text n (x ∷ xs) k
    here true is e more = record {
      index = 0;
      item = x;
      is_index = (let h : n ≡ k = cc in omega (arith, h));
      found = ap (λ same. cond same (Some x) (find (λ y. same_text name (text y)) xs)) is;
      there = refl;
    }
    here false is e more = let rest = more e in record {
      index = suc rest.index;
      item = rest.item;
      is_index = omega (arith, rest.is_index);
      found = ap (λ same. cond same (Some x) (find (λ y. same_text name (text y)) xs)) is ∙ rest.found;
      there = rest.there;
    }

none_from : {X : Type 0} (name : List ℕ) (text : X → List ℕ) (n : ℕ) (xs : List X) →
    position_from (same_text name) n (map text xs) ≡ None → find (λ x. same_text name (text x)) xs ≡ None
none_from name text n [] e = refl
none_from {X} name text n (x ∷ xs) e = here (same_text name (text x)) e (none_from name text (n + 1) xs)
  where
    here : (same : Bool) → cond same (Some n) (position_from (same_text name) (n + 1) (map text xs)) ≡ None →
        (position_from (same_text name) (n + 1) (map text xs) ≡ None → find (λ y. same_text name (text y)) xs ≡ None) →
        cond same (Some x) (find (λ y. same_text name (text y)) xs) ≡ None
    here true e more = absurd cc
    here false e more = more e

pub found_at_number : {X : Type 0} (name : List ℕ) (text : X → List ℕ) (xs : List X) (k : ℕ) →
    Some k ≡ number_of (map text xs) name → find (λ x. same_text name (text x)) xs ≡ slice_get xs k
found_at_number {X} name text xs k e =
    let at = at_from name text 0 xs k (sym (e ∙ position_from-zero (same_text name) (map text xs)))
    in let h : k ≡ at.index = omega (arith, at.is_index)
    in at.found ∙ sym at.there ∙ ap (slice_get xs) (sym h)

pub number_within : {X : Type 0} (name : List ℕ) (text : X → List ℕ) (xs : List X) (k : ℕ) → Some k ≡ number_of (map text xs) name → k < length xs
number_within {X} name text xs k e =
    let at = at_from name text 0 xs k (sym (e ∙ position_from-zero (same_text name) (map text xs)))
    in let h : k ≡ at.index = omega (arith, at.is_index)
    in slice_get_within xs k at.item (ap (slice_get xs) h ∙ at.there)

pub no_number : {X : Type 0} (name : List ℕ) (text : X → List ℕ) (xs : List X) →
    None ≡ number_of (map text xs) name → find (λ x. same_text name (text x)) xs ≡ None
no_number name text xs e = none_from name text 0 xs (sym (e ∙ position_from-zero (same_text name) (map text xs)))
