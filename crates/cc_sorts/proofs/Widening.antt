-- The parts of the sorts behind a pair.
use Rattle.std.proofs.Common.{◌≡◌, ◌∙◌, ℕ, ◌<◌, Bool, true, false, ◌||◌, ◌&&◌, cond, List, [], ◌∷◌, ◌++◌, length, refl, sym, subst, ap}
use Rattle.std.specs.Prelude.{◌==◌}
use Rattle.std.specs.List.{AllByRecursion}
use Rattle.std.proofs.lemmas.List.Folds.{list_any-append}
use Rattle.cc_defs.specs.Declarations.{Pair, is_below}
use Rattle.cc_sorts.specs.declared.sorts.SortPair.{SortPair}
use Rattle.cc_sorts.specs.Lists.{list_at, at_each, AreBelow}
use Rattle.cc_sorts.specs.Numbers.{Ascends, has, union}
use Rattle.cc_sorts.specs.SortParts.{named_behind, named_pairs, same_numbers, IsWithin, AreKnown, AreThose, AreKept}
use Rattle.cc_sorts.specs.SortViews.{SortsView, changed_above, with_pair, with_implied}
use Rattle.cc_sorts.proofs.Among.{has_union}
use Rattle.cc_sorts.proofs.Below.{implied_same}
use Rattle.cc_sorts.proofs.Changing.{each_at, length_each, ascend_each, each_is_above}
use Rattle.cc_sorts.proofs.Growing.{seen}
use Rattle.cc_sorts.proofs.Unions.{all_union, ascends_union}
use Rattle.cc_sorts.proofs.Vectors.{ascends_at}

or_false : (a : Bool) → a ≡ (a || false)
or_false true = refl
or_false false = refl

and_swap : (a b : Bool) → (a && b) ≡ (b && a)
and_swap true true = refl
and_swap true false = refl
and_swap false true = refl
and_swap false false = refl

-- ---- pairs

named_push : (names : List (List ℕ)) (done : List Pair) (pairs : List SortPair) (pair : SortPair) →
    named_behind names done (pairs ++ pair ∷ []) ≡ (list_at names pair.upper, list_at names pair.lower) ∷ named_behind names done pairs
named_push names done [] pair = refl
named_push names done (first ∷ pairs) pair = named_push names ((list_at names first.upper, list_at names first.lower) ∷ done) pairs pair

within_push : (count : ℕ) (pairs : List SortPair) (pair : SortPair) → AllByRecursion (IsWithin count) pairs → IsWithin count pair → AllByRecursion (IsWithin count) (pairs ++ pair ∷ [])
within_push count [] pair all here = (here, tt)
within_push count (first ∷ pairs) pair all here = (all.0, within_push count pairs pair all.1 here)

-- a pair is known beside the others
pub known_more : (known room new pairs : List SortPair) (pair : SortPair) → AreKnown room known → AreKnown new (room ++ pair ∷ []) → AreKnown known pairs → AreKnown new (pairs ++ pair ∷ [])
known_more known room new pairs pair same more are = λ q.
    more q ∙ list_any-append (same_numbers q) room (pair ∷ []) ∙ ap (λ (b : Bool). b || (same_numbers q pair || false)) (same q ∙ are q)
    ∙ sym (list_any-append (same_numbers q) pairs (pair ∷ []))

-- ---- lists

has_changed : (b : Bool) (j : ℕ) (list others : List ℕ) → has j (cond b (union list others) list) ≡ (has j list || (b && has j others))
has_changed true j list others = has_union j list others
has_changed false j list others = or_false (has j list)

below_changed : (b : Bool) (count : ℕ) (list others : List ℕ) → AreBelow count list → AreBelow count others → AreBelow count (cond b (union list others) list)
below_changed true count list others one other = all_union (λ n. n < count) list others one other
below_changed false count list others one other = one

those_widened : (count : ℕ) (test more : ℕ → ℕ → Bool) (lists : List (List ℕ)) (numbers others : List ℕ) → AreThose count test lists → Ascends numbers → AreBelow count numbers →
    Ascends others → AreBelow count others → ((i j : ℕ) → i < count → j < count → more i j ≡ (test i j || (has i numbers && has j others))) →
    AreThose count more (at_each numbers (λ list. union list others) lists)
those_widened count test more lists numbers others are hn wn ho wo is_more =
    let change : List ℕ → List ℕ = λ list. union list others in
    let within_lists : AreBelow (length lists) numbers = subst (λ (n : ℕ). AreBelow n numbers) (sym are.as_many) wn in
    record {
      as_many = length_each change numbers lists ∙ are.as_many;
      those = λ i j hi hj.
          ap (has j) (each_at change numbers lists i hn within_lists) ∙ has_changed (has i numbers) j (list_at lists i) others
          ∙ ap (λ (b : Bool). b || (has i numbers && has j others)) (are.those i j hi hj) ∙ sym (is_more i j hi hj);
      within = λ i hi. subst (AreBelow count) (sym (each_at change numbers lists i hn within_lists)) (below_changed (has i numbers) count (list_at lists i) others (are.within i hi) wo);
      ascend = ascend_each change (λ list. ascends_union list others ho) numbers lists are.ascend;
    }

module _ (names : List (List ℕ)) (pairs known : List SortPair) (above below members : List (List ℕ)) (upper lower : ℕ)
    (kept : AreKept names pairs known above below members) (hu : upper < length names) (hl : lower < length names) (uppers lowers objects : List ℕ)
    (is_uppers : uppers ≡ list_at above upper) (is_lowers : lowers ≡ list_at below lower) (is_objects : objects ≡ list_at members lower) where
  abbrev pair : SortPair
  pair = record { upper = upper; lower = lower }

  uppers_ascend : Ascends uppers
  uppers_ascend = subst Ascends (sym is_uppers) (ascends_at above upper kept.above_are.ascend)

  lowers_ascend : Ascends lowers
  lowers_ascend = subst Ascends (sym is_lowers) (ascends_at below lower kept.below_are.ascend)

  objects_ascend : Ascends objects
  objects_ascend = subst Ascends (sym is_objects) (ascends_at members lower kept.members_ascend)

  uppers_within : AreBelow (length names) uppers
  uppers_within = subst (AreBelow (length names)) (sym is_uppers) (kept.above_are.within upper hu)

  lowers_within : AreBelow (length names) lowers
  lowers_within = subst (AreBelow (length names)) (sym is_lowers) (kept.below_are.within lower hl)

  has_upper : (j : ℕ) → j < length names → has j uppers ≡ is_below (named_pairs names pairs) (list_at names upper) (list_at names j)
  has_upper j hj = ap (has j) is_uppers ∙ kept.above_are.those upper j hu hj

  has_lower : (i : ℕ) → i < length names → has i lowers ≡ is_below (named_pairs names pairs) (list_at names i) (list_at names lower)
  has_lower i hi = ap (has i) is_lowers ∙ kept.below_are.those lower i hl hi

  test_widened : (i j : ℕ) → i < length names → j < length names →
      is_below (named_pairs names (pairs ++ pair ∷ [])) (list_at names i) (list_at names j)
      ≡ (is_below (named_pairs names pairs) (list_at names i) (list_at names j) || (has i lowers && has j uppers))
  test_widened i j hi hj =
      ap (λ (ps : List Pair). is_below ps (list_at names i) (list_at names j)) (named_push names [] pairs pair)
      ∙ ap (λ (b : Bool). is_below (named_pairs names pairs) (list_at names i) (list_at names j) || (b && is_below (named_pairs names pairs) (list_at names upper) (list_at names j))) (sym (has_lower i hi))
      ∙ ap (λ (b : Bool). is_below (named_pairs names pairs) (list_at names i) (list_at names j) || (has i lowers && b)) (sym (has_upper j hj))

  pub kept_pair : (upper == lower) ≡ false → (more_pairs more_known : List SortPair) (more_above more_below more_members : List (List ℕ)) → more_pairs ≡ pairs ++ pair ∷ [] →
      AreKnown more_known (pairs ++ pair ∷ []) → more_above ≡ at_each lowers (λ list. union list uppers) above →
      more_below ≡ at_each uppers (λ list. union list lowers) below → more_members ≡ at_each uppers (λ list. union list objects) members →
      AreKept names more_pairs more_known more_above more_below more_members
  kept_pair apart more_pairs more_known more_above more_below more_members is_pairs is_known is_above is_below_lists is_members =
      rw (is_pairs, is_above, is_below_lists, is_members) widened
    where
      widened : AreKept names (pairs ++ pair ∷ []) more_known (at_each lowers (λ list. union list uppers) above)
          (at_each uppers (λ list. union list lowers) below) (at_each uppers (λ list. union list objects) members)
      widened = record {
        few = kept.few;
        distinct = kept.distinct;
        pairs_within = within_push (length names) pairs pair kept.pairs_within (hu, hl, apart);
        known_are = is_known;
        above_are = those_widened (length names) (λ i j. is_below (named_pairs names pairs) (list_at names i) (list_at names j))
            (λ i j. is_below (named_pairs names (pairs ++ pair ∷ [])) (list_at names i) (list_at names j)) above lowers uppers kept.above_are
            lowers_ascend lowers_within uppers_ascend uppers_within test_widened;
        below_are = those_widened (length names) (λ i j. is_below (named_pairs names pairs) (list_at names j) (list_at names i))
            (λ i j. is_below (named_pairs names (pairs ++ pair ∷ [])) (list_at names j) (list_at names i)) below uppers lowers kept.below_are
            uppers_ascend uppers_within lowers_ascend lowers_within
            (λ i j hi hj. test_widened j i hj hi ∙ ap (λ (b : Bool). is_below (named_pairs names pairs) (list_at names j) (list_at names i) || b) (and_swap (has j lowers) (has i uppers)));
        members_count = length_each (λ list. union list objects) uppers members ∙ kept.members_count;
        members_ascend = ascend_each (λ list. union list objects) (λ list. ascends_union list objects objects_ascend) uppers members kept.members_ascend;
      }

  pub seen_pair : (more_pairs : List SortPair) (more_members : List (List ℕ)) → more_pairs ≡ pairs ++ pair ∷ [] →
      more_members ≡ at_each uppers (λ list. union list objects) members →
      seen names more_pairs more_members ≡ with_pair (seen names pairs members) upper lower
  seen_pair more_pairs more_members is_pairs is_members =
      ap (λ (ps : List SortPair). seen names ps more_members) is_pairs
      ∙ ap (λ (ps : List Pair). (let view : SortsView = record { names = names; pairs = ps; members = more_members } in view)) (named_push names [] pairs pair)
      ∙ ap (λ (lists : List (List ℕ)). (let view : SortsView = record { names = names; pairs = (list_at names upper, list_at names lower) ∷ named_pairs names pairs; members = lists } in view))
      (is_members
      ∙ each_is_above (λ list. union list objects) (named_pairs names pairs) (list_at names upper) names members uppers kept.members_count uppers_ascend
      (subst (λ (n : ℕ). AreBelow n uppers) (sym kept.members_count) uppers_within) has_upper)
      ∙ ap (λ (o : List ℕ). (let view : SortsView = record { names = names; pairs = (list_at names upper, list_at names lower) ∷ named_pairs names pairs; members = changed_above (named_pairs names pairs) (list_at names upper) (λ list. union list o) names members } in view)) is_objects

pub pushed : {X : Type 0} (old room new : List X) (x : X) → new ≡ room ++ x ∷ [] → room ≡ old → new ≡ old ++ x ∷ []
pushed old room new x is same = is ∙ ap (λ xs. xs ++ x ∷ []) same

-- ---- a pair that follows from the others

those_same : (count : ℕ) (test more : ℕ → ℕ → Bool) (lists : List (List ℕ)) → AreThose count test lists → ((i j : ℕ) → more i j ≡ test i j) → AreThose count more lists
those_same count test more lists are same = record {
  as_many = are.as_many;
  those = λ i j hi hj. are.those i j hi hj ∙ sym (same i j);
  within = are.within;
  ascend = are.ascend;
}

module _ (names : List (List ℕ)) (pairs known : List SortPair) (above below members : List (List ℕ)) (upper lower : ℕ)
    (kept : AreKept names pairs known above below members) (hu : upper < length names) (hl : lower < length names) where
  abbrev implied : SortPair
  implied = record { upper = upper; lower = lower }

  pub kept_implied : (upper == lower) ≡ false → is_below (named_pairs names pairs) (list_at names lower) (list_at names upper) ≡ true → (more_pairs more_known : List SortPair) →
      more_pairs ≡ pairs ++ implied ∷ [] → AreKnown more_known (pairs ++ implied ∷ []) → AreKept names more_pairs more_known above below members
  kept_implied apart follows more_pairs more_known is_pairs is_known = rw is_pairs more
    where
      same : (i j : ℕ) → is_below (named_pairs names (pairs ++ implied ∷ [])) (list_at names i) (list_at names j) ≡ is_below (named_pairs names pairs) (list_at names i) (list_at names j)
      same i j =
          ap (λ (ps : List Pair). is_below ps (list_at names i) (list_at names j)) (named_push names [] pairs implied)
          ∙ implied_same (named_pairs names pairs) (list_at names upper) (list_at names lower) (list_at names i) (list_at names j) follows

      more : AreKept names (pairs ++ implied ∷ []) more_known above below members
      more = record {
        few = kept.few;
        distinct = kept.distinct;
        pairs_within = within_push (length names) pairs implied kept.pairs_within (hu, hl, apart);
        known_are = is_known;
        above_are = those_same (length names) (λ i j. is_below (named_pairs names pairs) (list_at names i) (list_at names j))
            (λ i j. is_below (named_pairs names (pairs ++ implied ∷ [])) (list_at names i) (list_at names j)) above kept.above_are same;
        below_are = those_same (length names) (λ i j. is_below (named_pairs names pairs) (list_at names j) (list_at names i))
            (λ i j. is_below (named_pairs names (pairs ++ implied ∷ [])) (list_at names j) (list_at names i)) below kept.below_are (λ i j. same j i);
        members_count = kept.members_count;
        members_ascend = kept.members_ascend;
      }

  pub seen_implied : (more_pairs : List SortPair) → more_pairs ≡ pairs ++ implied ∷ [] → seen names more_pairs members ≡ with_implied (seen names pairs members) upper lower
  seen_implied more_pairs is_pairs =
      ap (λ (ps : List SortPair). seen names ps members) is_pairs
      ∙ ap (λ (ps : List Pair). (let view : SortsView = record { names = names; pairs = ps; members = members } in view)) (named_push names [] pairs implied)
