-- Lists changed at some numbers, by number and by name.
use Rattle.std.proofs.Common.{◌≡◌, ◌∙◌, ℕ, zero, suc, ◌<◌, ◌≢◌, inl, inr, Bool, false, ◌||◌, cond, List, [], ◌∷◌, ◌++◌, length, get_or, slice_set, refl, sym, subst, ap, arith, append-nil}
use Rattle.std.specs.Prelude.{◌==◌}
use Rattle.std.specs.List.{AllByRecursion}
use Rattle.std.proofs.lemmas.Bool.{cases_order, eq-eqb, ne_eqb}
use Rattle.std.proofs.lemmas.List.{get_or-set_same, get_or-set_other, ext_get_or}
use Rattle.std.proofs.Math.ListN.{length-set}
use Rattle.cc_defs.specs.Declarations.{Pair, is_below}
use Rattle.cc_sorts.specs.declared.sorts.SortPair.{SortPair}
use Rattle.cc_sorts.specs.Lists.{list_at, at_each, AllAscend, AreBelow}
use Rattle.cc_sorts.specs.Numbers.{Ascends, has, union}
use Rattle.cc_sorts.specs.SortParts.{named_pairs, AreKept}
use Rattle.cc_sorts.specs.SortViews.{changed_above, with_object, IsPast}
use Rattle.cc_sorts.proofs.Among.{has_not}
use Rattle.cc_sorts.proofs.Growing.{seen}
use Rattle.cc_sorts.proofs.Unions.{IsLow, union_behind, ascends_union}
use Rattle.cc_sorts.proofs.Vectors.{all_at, ascend_set, ascends_at}

not_low : (number : ℕ) (xs : List ℕ) → IsLow number xs → has number xs ≡ false
not_low number xs low = has_not xs number 0 (λ k within same. let less : number < get_or xs k 0 = all_at (λ n. number < n) xs k 0 low within in omega arith)

module _ (change : List ℕ → List ℕ) where
  abbrev pub changed_if : Bool → List ℕ → List ℕ
  changed_if test list = cond test (change list) list

  pub length_each : (numbers : List ℕ) (lists : List (List ℕ)) → length (at_each numbers change lists) ≡ length lists
  length_each [] lists = refl
  length_each (number ∷ numbers) lists =
      length_each numbers (slice_set lists number (change (list_at lists number))) ∙ length-set lists number (change (list_at lists number))

  -- what a list becomes
  pub each_at : (numbers : List ℕ) (lists : List (List ℕ)) (i : ℕ) → Ascends numbers → AreBelow (length lists) numbers →
      list_at (at_each numbers change lists) i ≡ changed_if (has i numbers) (list_at lists i)
  each_at [] lists i h within = refl
  each_at (number ∷ numbers) lists i h within =
      let new : List (List ℕ) = slice_set lists number (change (list_at lists number)) in
      let count : length lists ≡ length new = sym (length-set lists number (change (list_at lists number))) in
      let more : list_at (at_each numbers change new) i ≡ changed_if (has i numbers) (list_at new i) =
      each_at numbers new i h.1 (subst (λ (n : ℕ). AreBelow n numbers) count within.1) in
      elim (cases_order number i) [
        | inl same ↦ more
            ∙ ap (λ (b : Bool). changed_if b (list_at new i)) (ap (λ (n : ℕ). has n numbers) (sym same) ∙ not_low number numbers h.0)
            ∙ ap (list_at new) (sym same) ∙ get_or-set_same lists number (change (list_at lists number)) [] within.0
            ∙ ap (λ (n : ℕ). change (list_at lists n)) same
            ∙ sym (ap (λ (b : Bool). changed_if (b || has i numbers) (list_at lists i)) (eq-eqb number i same))
        | inr (inl less) ↦ other number numbers lists i more (λ same. omega arith)
        | inr (inr above) ↦ other number numbers lists i more (λ same. omega arith)
      ]
    where
      other : (number : ℕ) (numbers : List ℕ) (lists : List (List ℕ)) (i : ℕ) →
          list_at (at_each numbers change (slice_set lists number (change (list_at lists number)))) i
          ≡ changed_if (has i numbers) (list_at (slice_set lists number (change (list_at lists number))) i) → i ≢ number →
          list_at (at_each numbers change (slice_set lists number (change (list_at lists number)))) i ≡ changed_if (number == i || has i numbers) (list_at lists i)
      other number numbers lists i more apart =
          more ∙ ap (changed_if (has i numbers)) (get_or-set_other lists number i (change (list_at lists number)) [] apart)
          ∙ sym (ap (λ (b : Bool). changed_if (b || has i numbers) (list_at lists i)) (ne_eqb number i (λ same. apart (sym same))))

  pub ascend_each : ((list : List ℕ) → Ascends (change list)) → (numbers : List ℕ) (lists : List (List ℕ)) → AllAscend lists → AllAscend (at_each numbers change lists)
  ascend_each ascends [] lists all = all
  ascend_each ascends (number ∷ numbers) lists all =
      ascend_each ascends numbers (slice_set lists number (change (list_at lists number))) (ascend_set lists number (change (list_at lists number)) all (ascends (list_at lists number)))

  length_above : (pairs : List Pair) (sort : List ℕ) (names lists : List (List ℕ)) → length lists ≡ length names → length (changed_above pairs sort change names lists) ≡ length lists
  length_above pairs sort [] [] same = refl
  length_above pairs sort [] (list ∷ lists) same = absurd (omega arith)
  length_above pairs sort (name ∷ names) [] same = refl
  length_above pairs sort (name ∷ names) (list ∷ lists) same = let more : length (changed_above pairs sort change names lists) ≡ length lists = length_above pairs sort names lists (omega arith) in omega arith

  above_at : (pairs : List Pair) (sort : List ℕ) (names lists : List (List ℕ)) (i : ℕ) → length lists ≡ length names → i < length lists →
      list_at (changed_above pairs sort change names lists) i ≡ changed_if (is_below pairs sort (list_at names i)) (list_at lists i)
  above_at pairs sort [] [] i same within = absurd (omega arith)
  above_at pairs sort [] (list ∷ lists) i same within = absurd (omega arith)
  above_at pairs sort (name ∷ names) [] i same within = absurd (omega arith)
  above_at pairs sort (name ∷ names) (list ∷ lists) zero same within = refl
  above_at pairs sort (name ∷ names) (list ∷ lists) (suc i) same within = above_at pairs sort names lists i (omega arith) (omega arith)

  -- lists changed at the numbers above a sort are those that are changed by its name
  pub each_is_above : (pairs : List Pair) (sort : List ℕ) (names lists : List (List ℕ)) (numbers : List ℕ) → length lists ≡ length names → Ascends numbers →
      AreBelow (length lists) numbers → ((i : ℕ) → i < length names → has i numbers ≡ is_below pairs sort (list_at names i)) →
      at_each numbers change lists ≡ changed_above pairs sort change names lists
  each_is_above pairs sort names lists numbers same ascends within are =
      ext_get_or [] (at_each numbers change lists) (changed_above pairs sort change names lists)
      (length_each numbers lists ∙ sym (length_above pairs sort names lists same))
      (λ i below.
      let low : i < length lists = omega (arith, length_each numbers lists) in
      each_at numbers lists i ascends within ∙ ap (λ (b : Bool). changed_if b (list_at lists i)) (are i (omega arith)) ∙ sym (above_at pairs sort names lists i same low))

-- changes that agree on the lists
pub above_same : (one other : List ℕ → List ℕ) (pairs : List Pair) (sort : List ℕ) (names lists : List (List ℕ)) → AllByRecursion (λ list. one list ≡ other list) lists →
    changed_above pairs sort one names lists ≡ changed_above pairs sort other names lists
above_same one other pairs sort [] lists all = refl
above_same one other pairs sort (name ∷ names) [] all = refl
above_same one other pairs sort (name ∷ names) (list ∷ lists) all =
    ap (λ (new : List ℕ). cond (is_below pairs sort name) new list ∷ changed_above pairs sort one names lists) all.0
    ∙ ap (λ (rest : List (List ℕ)). cond (is_below pairs sort name) (other list) list ∷ rest) (above_same one other pairs sort names lists all.1)

-- ---- an object behind the others

low_each : (object : ℕ) (list : List ℕ) → AllByRecursion (λ member. member < object) list → AllByRecursion (λ x. IsLow x (object ∷ [])) list
low_each object [] all = tt
low_each object (x ∷ list) all = ((all.0, tt), low_each object list all.1)

put_last : (list : List ℕ) (object : ℕ) → Ascends list → AllByRecursion (λ member. member < object) list → union list (object ∷ []) ≡ list ++ object ∷ []
put_last list object h past =
    ap (λ (l : List ℕ). union l (object ∷ [])) (sym (append-nil list))
    ∙ union_behind list [] (object ∷ []) (subst Ascends (sym (append-nil list)) h) (low_each object list past)

put_all : (object : ℕ) (lists : List (List ℕ)) → AllAscend lists → AllByRecursion (λ list. AllByRecursion (λ member. member < object) list) lists →
    AllByRecursion (λ list. union list (object ∷ []) ≡ list ++ object ∷ []) lists
put_all object [] all past = tt
put_all object (list ∷ lists) all past = (put_last list object all.0 past.0, put_all object lists all.1 past.1)

module _ (names : List (List ℕ)) (pairs known : List SortPair) (above below members new : List (List ℕ)) (sort object : ℕ) (numbers : List ℕ)
    (kept : AreKept names pairs known above below members) (within : sort < length names) (is_numbers : numbers ≡ list_at above sort)
    (is_new : new ≡ at_each numbers (λ list. union list (object ∷ [])) members) where
  pub kept_object : AreKept names pairs known above below new
  kept_object = record {
    few = kept.few;
    distinct = kept.distinct;
    pairs_within = kept.pairs_within;
    known_are = kept.known_are;
    above_are = kept.above_are;
    below_are = kept.below_are;
    members_count = ap length is_new ∙ length_each (λ list. union list (object ∷ [])) numbers members ∙ kept.members_count;
    members_ascend = subst AllAscend (sym is_new) (ascend_each (λ list. union list (object ∷ [])) (λ list. ascends_union list (object ∷ []) (tt, tt)) numbers members kept.members_ascend);
  }

  pub seen_object : IsPast object (seen names pairs members) → seen names pairs new ≡ with_object (seen names pairs members) sort object
  seen_object past =
      let numbers_ascend : Ascends numbers = subst Ascends (sym is_numbers) (ascends_at above sort kept.above_are.ascend) in
      let numbers_within : AreBelow (length members) numbers = subst (λ (n : ℕ). AreBelow n numbers) (sym kept.members_count) (subst (AreBelow (length names)) (sym is_numbers) (kept.above_are.within sort within)) in
      ap (seen names pairs) (is_new
      ∙ each_is_above (λ list. union list (object ∷ [])) (named_pairs names pairs) (list_at names sort) names members numbers kept.members_count numbers_ascend numbers_within
      (λ i hi. ap (has i) is_numbers ∙ kept.above_are.those sort i within hi)
      ∙ above_same (λ list. union list (object ∷ [])) (λ list. list ++ object ∷ []) (named_pairs names pairs) (list_at names sort) names members (put_all object members kept.members_ascend past))
