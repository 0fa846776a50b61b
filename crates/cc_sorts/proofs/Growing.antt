-- The parts of the sorts behind a sort that is added.
use Rattle.std.proofs.Common.{◌≡◌, ◌∙◌, ℕ, ◌+◌, ◌<◌, ◌⊎◌, inl, inr, Bool, true, false, ◌||◌, List, [], ◌∷◌, ◌++◌, length, get_or, None, refl, sym, subst, ap, arith, length-append}
use Rattle.std.specs.List.{AllByRecursion}
use Rattle.std.proofs.lemmas.Bool.{cases_lt, eq-eqb, ne_eqb}
use Rattle.std.proofs.lemmas.List.{get_or_append_left}
use Rattle.std.proofs.Math.Seq.{get_or-append_seam}
use Rattle.cc_defs.specs.Grammar.{same_text}
use Rattle.cc_defs.specs.Declarations.{Pair, is_below}
use Rattle.cc_sorts.specs.declared.sorts.SortPair.{SortPair}
use Rattle.cc_sorts.specs.Dictionaries.{number_of}
use Rattle.cc_sorts.specs.Lists.{list_at, AllAscend, AreBelow}
use Rattle.cc_sorts.specs.Numbers.{Ascends, has}
use Rattle.cc_sorts.specs.SortParts.{named_pairs, IsWithin, AreDistinct, AreKnown, AreThose, AreKept}
use Rattle.cc_sorts.specs.SortViews.{SortsView, with_sort}
use Rattle.cc_sorts.proofs.Among.{has_not}
use Rattle.cc_sorts.proofs.Pairs.{AreOthers, is_other, are_others, below_new, new_below, below_itself, named_more}
use Rattle.cc_sorts.proofs.Vectors.{all_at}

at_front : (lists : List (List ℕ)) (list : List ℕ) (i : ℕ) → i < length lists → list_at (lists ++ list ∷ []) i ≡ list_at lists i
at_front lists list i within = get_or_append_left lists (list ∷ []) [] i within

at_end : (lists : List (List ℕ)) (list : List ℕ) (i : ℕ) → i ≡ length lists → list_at (lists ++ list ∷ []) i ≡ list
at_end lists list i same = ap (list_at (lists ++ list ∷ [])) same ∙ get_or-append_seam lists list [] []

front_or_end : (i count : ℕ) → i < count + 1 → (i < count) ⊎ (i ≡ count)
front_or_end i count within = elim (cases_lt i count) [ inl less ↦ inl less | inr least ↦ inr (omega arith) ]

more_below : (count : ℕ) (xs : List ℕ) → AreBelow count xs → AreBelow (count + 1) xs
more_below count [] all = tt
more_below count (x ∷ xs) all = (omega (arith, all.0), more_below count xs all.1)

more_within : (count : ℕ) (pairs : List SortPair) → AllByRecursion (IsWithin count) pairs → AllByRecursion (IsWithin (count + 1)) pairs
more_within count [] all = tt
more_within count (pair ∷ pairs) all = ((omega (arith, all.0.0), omega (arith, all.0.1), all.0.2), more_within count pairs all.1)

ascend_append : (lists : List (List ℕ)) (list : List ℕ) → AllAscend lists → Ascends list → AllAscend (lists ++ list ∷ [])
ascend_append [] list all here = (here, tt)
ascend_append (first ∷ lists) list all here = (all.0, ascend_append lists list all.1 here)

none_past : (count : ℕ) (xs : List ℕ) → AreBelow count xs → has count xs ≡ false
none_past count xs all = has_not xs count 0 (λ k within same. let less : get_or xs k 0 < count = all_at (λ n. n < count) xs k 0 all within in omega arith)

module _ (count : ℕ) (test more : ℕ → ℕ → Bool) (lists : List (List ℕ)) (are : AreThose count test lists)
    (old : (i j : ℕ) → i < count → j < count → more i j ≡ test i j) (none_above : (i : ℕ) → i < count → more i count ≡ false)
    (none_below : (j : ℕ) → j < count → more count j ≡ false) (itself : more count count ≡ true) where
  those_at : (i j : ℕ) → (i < count) ⊎ (i ≡ count) → (j < count) ⊎ (j ≡ count) → has j (list_at (lists ++ (count ∷ []) ∷ []) i) ≡ more i j
  those_at i j (inl hi) (inl hj) =
      ap (has j) (at_front lists (count ∷ []) i (omega (arith, are.as_many))) ∙ are.those i j hi hj ∙ sym (old i j hi hj)
  those_at i j (inl hi) (inr hj) =
      ap (has j) (at_front lists (count ∷ []) i (omega (arith, are.as_many))) ∙ ap (λ (n : ℕ). has n (list_at lists i)) hj
      ∙ none_past count (list_at lists i) (are.within i hi) ∙ sym (ap (more i) hj ∙ none_above i hi)
  those_at i j (inr hi) (inl hj) =
      ap (has j) (at_end lists (count ∷ []) i (hi ∙ sym are.as_many))
      ∙ ap (λ (b : Bool). b || false) (ne_eqb count j (λ same. omega arith)) ∙ sym (ap (λ (n : ℕ). more n j) hi ∙ none_below j hj)
  those_at i j (inr hi) (inr hj) =
      ap (has j) (at_end lists (count ∷ []) i (hi ∙ sym are.as_many))
      ∙ ap (λ (b : Bool). b || false) (eq-eqb count j (sym hj)) ∙ sym (ap (λ (n : ℕ). more n j) hi ∙ ap (more count) hj ∙ itself)

  within_at : (i : ℕ) → (i < count) ⊎ (i ≡ count) → AreBelow (count + 1) (list_at (lists ++ (count ∷ []) ∷ []) i)
  within_at i (inl hi) =
      subst (AreBelow (count + 1)) (sym (at_front lists (count ∷ []) i (omega (arith, are.as_many)))) (more_below count (list_at lists i) (are.within i hi))
  within_at i (inr hi) = subst (AreBelow (count + 1)) (sym (at_end lists (count ∷ []) i (hi ∙ sym are.as_many))) ((omega arith), tt)

  pub those_more : AreThose (count + 1) more (lists ++ (count ∷ []) ∷ [])
  those_more = record {
    as_many = omega (arith, length-append lists ((count ∷ []) ∷ []), are.as_many);
    those = λ i j hi hj. those_at i j (front_or_end i count hi) (front_or_end j count hj);
    within = λ i hi. within_at i (front_or_end i count hi);
    ascend = ascend_append lists (count ∷ []) are.ascend (tt, tt);
  }

module _ (names : List (List ℕ)) (name : List ℕ) (pairs : List SortPair) (none : number_of names name ≡ None) (within : AllByRecursion (IsWithin (length names)) pairs) where
  abbrev all_names : List (List ℕ)
  all_names = names ++ name ∷ []

  same_pairs : named_pairs all_names pairs ≡ named_pairs names pairs
  same_pairs = named_more names name [] pairs within

  others : AreOthers name (named_pairs names pairs)
  others = are_others name names pairs (is_other name names none) within

  test_front : (i j : ℕ) → i < length names → j < length names →
      is_below (named_pairs all_names pairs) (list_at all_names i) (list_at all_names j) ≡ is_below (named_pairs names pairs) (list_at names i) (list_at names j)
  test_front i j hi hj =
      ap (λ (ps : List Pair). is_below ps (list_at all_names i) (list_at all_names j)) same_pairs
      ∙ ap (λ (text : List ℕ). is_below (named_pairs names pairs) text (list_at all_names j)) (at_front names name i hi)
      ∙ ap (is_below (named_pairs names pairs) (list_at names i)) (at_front names name j hj)

  name_end : list_at all_names (length names) ≡ name
  name_end = at_end names name (length names) refl

  test_above : (i : ℕ) → i < length names → is_below (named_pairs all_names pairs) (list_at all_names i) (list_at all_names (length names)) ≡ false
  test_above i hi =
      ap (λ (ps : List Pair). is_below ps (list_at all_names i) (list_at all_names (length names))) same_pairs
      ∙ ap (λ (text : List ℕ). is_below (named_pairs names pairs) text (list_at all_names (length names))) (at_front names name i hi)
      ∙ ap (is_below (named_pairs names pairs) (list_at names i)) name_end
      ∙ below_new name (named_pairs names pairs) (list_at names i) others ∙ (is_other name names none i hi).1

  test_below : (j : ℕ) → j < length names → is_below (named_pairs all_names pairs) (list_at all_names (length names)) (list_at all_names j) ≡ false
  test_below j hj =
      ap (λ (ps : List Pair). is_below ps (list_at all_names (length names)) (list_at all_names j)) same_pairs
      ∙ ap (λ (text : List ℕ). is_below (named_pairs names pairs) text (list_at all_names j)) name_end
      ∙ ap (is_below (named_pairs names pairs) name) (at_front names name j hj)
      ∙ new_below name (named_pairs names pairs) (list_at names j) others ∙ (is_other name names none j hj).0

  distinct_at : AreDistinct names → (i j : ℕ) → (i < length names) ⊎ (i ≡ length names) → (j < length names) ⊎ (j ≡ length names) →
      same_text (list_at all_names i) (list_at all_names j) ≡ true → i ≡ j
  distinct_at distinct i j (inl hi) (inl hj) same =
      distinct i j hi hj (sym (ap (λ (text : List ℕ). same_text text (list_at all_names j)) (at_front names name i hi) ∙ ap (same_text (list_at names i)) (at_front names name j hj)) ∙ same)
  distinct_at distinct i j (inl hi) (inr hj) same =
      let other = (is_other name names none i hi).1 in
      let is : same_text (list_at names i) name ≡ true = sym (ap (λ (text : List ℕ). same_text text (list_at all_names j)) (at_front names name i hi) ∙ ap (same_text (list_at names i)) (at_end names name j hj)) ∙ same in
      absurd cc
  distinct_at distinct i j (inr hi) (inl hj) same =
      let other = (is_other name names none j hj).0 in
      let is : same_text name (list_at names j) ≡ true = sym (ap (λ (text : List ℕ). same_text text (list_at all_names j)) (at_end names name i hi) ∙ ap (same_text name) (at_front names name j hj)) ∙ same in
      absurd cc
  distinct_at distinct i j (inr hi) (inr hj) same = hi ∙ sym hj

  pub kept_sort : (known : List SortPair) (above below members : List (List ℕ)) → AreKept names pairs known above below members → length names < 4000000000 →
      AreKept all_names pairs known (above ++ (length names ∷ []) ∷ []) (below ++ (length names ∷ []) ∷ []) (members ++ [] ∷ [])
  kept_sort known above below members kept few =
      let count : length names + 1 ≡ length all_names = omega (arith, length-append names (name ∷ [])) in
      let itself : is_below (named_pairs all_names pairs) (list_at all_names (length names)) (list_at all_names (length names)) ≡ true = below_itself (named_pairs all_names pairs) (list_at all_names (length names)) in
      record {
        few = omega (arith, count);
        distinct = λ i j hi hj. distinct_at kept.distinct i j (front_or_end i (length names) (omega (arith, count))) (front_or_end j (length names) (omega (arith, count)));
        pairs_within = subst (λ (n : ℕ). AllByRecursion (IsWithin n) pairs) count (more_within (length names) pairs within);
        known_are = kept.known_are;
        above_are = subst (λ (n : ℕ). AreThose n (λ i j. is_below (named_pairs all_names pairs) (list_at all_names i) (list_at all_names j)) (above ++ (length names ∷ []) ∷ [])) count
            (those_more (length names) (λ i j. is_below (named_pairs names pairs) (list_at names i) (list_at names j))
            (λ i j. is_below (named_pairs all_names pairs) (list_at all_names i) (list_at all_names j)) above kept.above_are test_front test_above test_below itself);
        below_are = subst (λ (n : ℕ). AreThose n (λ i j. is_below (named_pairs all_names pairs) (list_at all_names j) (list_at all_names i)) (below ++ (length names ∷ []) ∷ [])) count
            (those_more (length names) (λ i j. is_below (named_pairs names pairs) (list_at names j) (list_at names i))
            (λ i j. is_below (named_pairs all_names pairs) (list_at all_names j) (list_at all_names i)) below kept.below_are (λ i j hi hj. test_front j i hj hi) test_below test_above itself);
        members_count = omega (arith, length-append members ([] ∷ []), kept.members_count, count);
        members_ascend = ascend_append members [] kept.members_ascend tt;
      }

pub kept_added : (names new : List (List ℕ)) (name : List ℕ) (pairs known : List SortPair) (above more_above below more_below members more_members : List (List ℕ)) (number : ℕ) →
    AreKept names pairs known above below members → number_of names name ≡ None → length names < 4000000000 → number ≡ length names → new ≡ names ++ name ∷ [] →
    more_above ≡ above ++ (number ∷ []) ∷ [] → more_below ≡ below ++ (number ∷ []) ∷ [] → more_members ≡ members ++ [] ∷ [] →
    AreKept new pairs known more_above more_below more_members
kept_added names new name pairs known above more_above below more_below members more_members number kept none few is_number is_new is_above is_below is_members =
    rw (is_new, is_above, is_below, is_members, is_number) (kept_sort names name pairs none kept.pairs_within known above below members kept few)

abbrev pub seen : List (List ℕ) → List SortPair → List (List ℕ) → SortsView
seen names pairs members = record { names = names; pairs = named_pairs names pairs; members = members }

pub seen_added : (names new : List (List ℕ)) (name : List ℕ) (pairs : List SortPair) (members more_members : List (List ℕ)) → AllByRecursion (IsWithin (length names)) pairs →
    new ≡ names ++ name ∷ [] → more_members ≡ members ++ [] ∷ [] → seen new pairs more_members ≡ with_sort (seen names pairs members) name
seen_added names new name pairs members more_members within is_new is_members =
    ap (λ (n : List (List ℕ)). seen n pairs more_members) is_new ∙ ap (seen (names ++ name ∷ []) pairs) is_members
    ∙ ap (λ (ps : List Pair). (let view : SortsView = record { names = names ++ name ∷ []; pairs = ps; members = members ++ [] ∷ [] } in view)) (named_more names name [] pairs within)

-- ---- parts that stayed

pub kept_as : (names new : List (List ℕ)) (pairs known : List SortPair) (above more_above below more_below members more_members : List (List ℕ)) → AreKept names pairs known above below members →
    new ≡ names → more_above ≡ above → more_below ≡ below → more_members ≡ members → AreKept new pairs known more_above more_below more_members
kept_as names new pairs known above more_above below more_below members more_members kept e f g h =
    let P : List (List ℕ) → Type 0 = λ w. AreKept w pairs known above below members in
    let Q : List (List ℕ) → Type 0 = λ w. AreKept new pairs known w below members in
    let R : List (List ℕ) → Type 0 = λ w. AreKept new pairs known more_above w members in
    let S : List (List ℕ) → Type 0 = λ w. AreKept new pairs known more_above more_below w in
    subst S (sym h) (subst R (sym g) (subst Q (sym f) (subst P (sym e) kept)))

pub seen_as : (names new : List (List ℕ)) (pairs more_pairs : List SortPair) (members more_members : List (List ℕ)) (view : SortsView) → seen names pairs members ≡ view →
    new ≡ names → more_pairs ≡ pairs → more_members ≡ members → seen new more_pairs more_members ≡ view
seen_as names new pairs more_pairs members more_members view is e f g =
    ap (λ (w : List (List ℕ)). seen w more_pairs more_members) e ∙ ap (λ (w : List SortPair). seen names w more_members) f ∙ ap (λ (w : List (List ℕ)). seen names pairs w) g ∙ is

pub kept_same : (names : List (List ℕ)) (pairs more_pairs known more_known : List SortPair) (above below members : List (List ℕ)) → AreKept names pairs known above below members →
    more_pairs ≡ pairs → AreKnown more_known known → AreKept names more_pairs more_known above below members
kept_same names pairs more_pairs known more_known above below members kept e f =
    let P : List SortPair → Type 0 = λ w. AreKept names w more_known above below members in
    subst P (sym e) (record {
      few = kept.few;
      distinct = kept.distinct;
      pairs_within = kept.pairs_within;
      known_are = λ pair. f pair ∙ kept.known_are pair;
      above_are = kept.above_are;
      below_are = kept.below_are;
      members_count = kept.members_count;
      members_ascend = kept.members_ascend;
    })
