-- Pairs of sorts by names and by numbers.
use Rattle.std.proofs.Common.{zero, suc, ◌+◌, cond, Some, None, ◌≡◌, ◌∙◌, ℕ, ◌<◌, Bool, true, false, ◌||◌, ◌&&◌, List, [], ◌∷◌, ◌++◌, length, refl, sym, ap, arith}
use Rattle.std.specs.Prelude.{◌==◌}
use Rattle.std.specs.List.{AllByRecursion, list_any, position_from}
use Rattle.std.proofs.lemmas.Iterator.Adapters.{position_from-zero}
use Rattle.std.proofs.lemmas.List.{get_or_append_left}
use Rattle.std.proofs.lemmas.Bool.{eq-eqb, ne_eqb, false≢true}
use Rattle.std.proofs.lemmas.Cmp.{nat_list_eq_equiv}
use Rattle.cc_defs.specs.Grammar.{same_text}
use Rattle.cc_defs.specs.Declarations.{Pair, is_below}
use Rattle.cc_defs.specs.DeclarationFaults.{same_pair}
use Rattle.cc_sorts.specs.declared.sorts.SortPair.{SortPair}
use Rattle.cc_sorts.specs.Dictionaries.{number_of}
use Rattle.cc_sorts.specs.Lists.{list_at}
use Rattle.cc_sorts.specs.SortParts.{named_behind, named_pairs, same_numbers, IsWithin, AreDistinct}

pub same_itself : (text : List ℕ) → same_text text text ≡ true
same_itself text = nat_list_eq_equiv.refl text

-- among distinct names a name is another where the numbers are
module _ (names : List (List ℕ)) (distinct : AreDistinct names) where
  same_name : (i j : ℕ) → i < length names → j < length names → (i == j) ≡ same_text (list_at names i) (list_at names j)
  same_name i j hi hj = by (same_text (list_at names i) (list_at names j)) refl
    where
      by : (b : Bool) → same_text (list_at names i) (list_at names j) ≡ b → (i == j) ≡ same_text (list_at names i) (list_at names j)
      by true e = eq-eqb i j (distinct i j hi hj e) ∙ sym e
      by false e = ne_eqb i j (λ same. false≢true (sym e ∙ ap (λ (k : ℕ). same_text (list_at names i) (list_at names k)) (sym same) ∙ same_itself (list_at names i))) ∙ sym e

  or_move : (a b c : Bool) → (b || (a || c)) ≡ ((a || b) || c)
  or_move true true c = refl
  or_move true false c = refl
  or_move false true c = refl
  or_move false false c = refl

  found_behind : (upper lower : ℕ) → upper < length names → lower < length names → (done : List Pair) (pairs : List SortPair) → AllByRecursion (IsWithin (length names)) pairs →
      list_any (same_pair (list_at names upper, list_at names lower)) (named_behind names done pairs)
      ≡ (list_any (same_numbers (record { upper = upper; lower = lower })) pairs || list_any (same_pair (list_at names upper, list_at names lower)) done)
  found_behind upper lower hu hl done [] all = refl
  found_behind upper lower hu hl done (pair ∷ pairs) all =
      let same : same_pair (list_at names upper, list_at names lower) (list_at names pair.upper, list_at names pair.lower) ≡ same_numbers (record { upper = upper; lower = lower }) pair =
      ap (λ (b : Bool). b && same_text (list_at names lower) (list_at names pair.lower)) (sym (same_name upper pair.upper hu all.0.0))
      ∙ ap (λ (b : Bool). upper == pair.upper && b) (sym (same_name lower pair.lower hl all.0.1)) in
      found_behind upper lower hu hl ((list_at names pair.upper, list_at names pair.lower) ∷ done) pairs all.1
      ∙ ap (λ (b : Bool). list_any (same_numbers (record { upper = upper; lower = lower })) pairs || (b || list_any (same_pair (list_at names upper, list_at names lower)) done)) same
      ∙ or_move (same_numbers (record { upper = upper; lower = lower }) pair) (list_any (same_numbers (record { upper = upper; lower = lower })) pairs) (list_any (same_pair (list_at names upper, list_at names lower)) done)

  or_false : (a : Bool) → (a || false) ≡ a
  or_false true = refl
  or_false false = refl

  pub found_pair : (upper lower : ℕ) → upper < length names → lower < length names → (pairs : List SortPair) → AllByRecursion (IsWithin (length names)) pairs →
      list_any (same_numbers (record { upper = upper; lower = lower })) pairs
      ≡ list_any (same_pair (list_at names upper, list_at names lower)) (named_pairs names pairs)
  found_pair upper lower hu hl pairs all =
      sym (found_behind upper lower hu hl [] pairs all ∙ or_false (list_any (same_numbers (record { upper = upper; lower = lower })) pairs))

-- ---- a name that no pair has

module _ (name : List ℕ) where
  abbrev pub IsOther : List ℕ → Type 0
  IsOther text = (same_text name text ≡ false) × (same_text text name ≡ false)

  abbrev pub AreOthers : List Pair → Type 0
  AreOthers pairs = AllByRecursion (λ (pair : Pair). IsOther pair.0 × IsOther pair.1) pairs

  and_false : (a b : Bool) → b ≡ false → (a && b) ≡ false
  and_false true b e = e
  and_false false b e = refl

  or_none : (a b : Bool) → b ≡ false → (a || b) ≡ a
  or_none true b e = refl
  or_none false b e = e

  false_and : (a b : Bool) → a ≡ false → (a && b) ≡ false
  false_and true b e = absurd cc
  false_and false b e = refl

  -- nothing but itself is below it
  pub below_new : (pairs : List Pair) (text : List ℕ) → AreOthers pairs → is_below pairs text name ≡ same_text text name
  below_new [] text others = refl
  below_new (pair ∷ pairs) text others =
      or_none (is_below pairs text name) (is_below pairs text pair.1 && is_below pairs pair.0 name)
      (and_false (is_below pairs text pair.1) (is_below pairs pair.0 name) (below_new pairs pair.0 others.1 ∙ others.0.0.1))
      ∙ below_new pairs text others.1

  -- and it is below nothing but itself
  pub new_below : (pairs : List Pair) (text : List ℕ) → AreOthers pairs → is_below pairs name text ≡ same_text name text
  new_below [] text others = refl
  new_below (pair ∷ pairs) text others =
      or_none (is_below pairs name text) (is_below pairs name pair.1 && is_below pairs pair.0 text)
      (false_and (is_below pairs name pair.1) (is_below pairs pair.0 text) (new_below pairs pair.1 others.1 ∙ others.0.1.0))
      ∙ new_below pairs text others.1

  others_behind : (names : List (List ℕ)) (done : List Pair) (pairs : List SortPair) → ((k : ℕ) → k < length names → IsOther (list_at names k)) →
      AllByRecursion (IsWithin (length names)) pairs → AreOthers done → AreOthers (named_behind names done pairs)
  others_behind names done [] other all others = others
  others_behind names done (pair ∷ pairs) other all others =
      others_behind names ((list_at names pair.upper, list_at names pair.lower) ∷ done) pairs other all.1 ((other pair.upper all.0.0, other pair.lower all.0.1), others)

  pub are_others : (names : List (List ℕ)) (pairs : List SortPair) → ((k : ℕ) → k < length names → IsOther (list_at names k)) →
      AllByRecursion (IsWithin (length names)) pairs → AreOthers (named_pairs names pairs)
  are_others names pairs other all = others_behind names [] pairs other all tt

  none_from : (n : ℕ) (names : List (List ℕ)) → position_from (same_text name) n names ≡ None → (k : ℕ) → k < length names → same_text name (list_at names k) ≡ false
  none_from n [] none k within = absurd (omega arith)
  none_from n (first ∷ names) none k within = by (same_text name first) refl none (none_from (n + 1) names) k within
    where
      by : (b : Bool) → same_text name first ≡ b → cond b (Some n) (position_from (same_text name) (n + 1) names) ≡ None →
          (position_from (same_text name) (n + 1) names ≡ None → (k : ℕ) → k < length names → same_text name (list_at names k) ≡ false) →
          (k : ℕ) → k < length (first ∷ names) → same_text name (list_at (first ∷ names) k) ≡ false
      by true e none more k within = absurd cc
      by false e none more zero within = e
      by false e none more (suc k) within = more none k (omega arith)

  pub is_other : (names : List (List ℕ)) → number_of names name ≡ None → (k : ℕ) → k < length names → IsOther (list_at names k)
  is_other names none k within =
      let other : same_text name (list_at names k) ≡ false = none_from 0 names (sym (position_from-zero (same_text name) names) ∙ none) k within in
      (other, nat_list_eq_equiv.symm (list_at names k) name ∙ other)

-- a text is below itself
pub below_itself : (pairs : List Pair) (text : List ℕ) → is_below pairs text text ≡ true
below_itself [] text = same_itself text
below_itself (pair ∷ pairs) text = ap (λ (b : Bool). b || (is_below pairs text pair.1 && is_below pairs pair.0 text)) (below_itself pairs text)

-- a name behind the others changes no pair
pub named_more : (names : List (List ℕ)) (name : List ℕ) (done : List Pair) (pairs : List SortPair) → AllByRecursion (IsWithin (length names)) pairs →
    named_behind (names ++ name ∷ []) done pairs ≡ named_behind names done pairs
named_more names name done [] all = refl
named_more names name done (pair ∷ pairs) all =
    named_more names name ((list_at (names ++ name ∷ []) pair.upper, list_at (names ++ name ∷ []) pair.lower) ∷ done) pairs all.1
    ∙ ap (λ (text : List ℕ). named_behind names ((text, list_at (names ++ name ∷ []) pair.lower) ∷ done) pairs) (get_or_append_left names (name ∷ []) [] pair.upper all.0.0)
    ∙ ap (λ (text : List ℕ). named_behind names ((list_at names pair.upper, text) ∷ done) pairs) (get_or_append_left names (name ∷ []) [] pair.lower all.0.1)
