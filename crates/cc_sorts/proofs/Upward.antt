-- A search upwards from a sort.
use Rattle.std.proofs.Common.{◌≡◌, ◌∙◌, ◌⊎◌, inl, inr, ℕ, zero, suc, ◌+◌, ◌<◌, ◌≤◌, arith, Bool, true, false, cond, ◌||◌, ◌&&◌, List, [], ◌∷◌, ◌++◌, map, flat_map, take, length, get_or, slice_index_or, slice_get, Option, Some, None, is_some, IsTrue, refl, sym, ap, subst, append_assoc, append-nil, add-one}
use Rattle.std.specs.Prelude.{if◌then◌else◌}
use Rattle.std.proofs.lemmas.Bool.{false≢true}
use Rattle.std.specs.Cmp.Lexicographic.{bytes_decides}
use Rattle.std.specs.Cmp.{IsEquivalence}
use Rattle.std.specs.List.{list_any, filter, position_from, AllByRecursion, IsDistinct}
use Rattle.std.specs.Map.{lookup}
use Rattle.std.specs.declared.vec.Vec.{Vec}
use Rattle.std.proofs.lemmas.Cmp.{nat_list_eq_equiv}
use Rattle.std.proofs.lemmas.Iterator.Adapters.{position_from-zero}
use Rattle.std.proofs.lemmas.List.{map-append, length-map, take_all, take-append-le}
use Rattle.std.proofs.lemmas.Option.{slice_get_within}
use Rattle.std.proofs.lemmas.Map.Made.{length-le_from_is_member}
use Rattle.std.proofs.lemmas.List.Folds.{list_any-append}
use Rattle.std.proofs.Math.Seq.{take-suc}
use Rattle.indexmap.specs.IndexSet.{insert_key}
use Rattle.cc_defs.specs.Declarations.{Declaration, Pair, pairs, is_below, numbers_where}
use Rattle.cc_defs.specs.DeclarationFaults.{same_pair, is_sort}
use Rattle.cc_defs.specs.Grammar.{same_text}
use Rattle.cc_sorts.specs.Dictionaries.{number_of}
use Rattle.cc_sorts.specs.Lefts.{plain_pair, IsLeft, new_uppers, uppers_in, texts_of}
use Rattle.cc_sorts.specs.Lists.{AreBelow}
use Rattle.cc_sorts.specs.Searches.{is_in, same_key, Grows, AreClosed, table_uppers, all_uppers, IsSearched}
use Rattle.cc_sorts.specs.SortViews.{SortsView, name_at}
use Rattle.cc_sorts.specs.declared.left.Left.{Left}
use Rattle.cc_sorts.proofs.Below.{and_false, either, both, by_first, below_self, below_through, below_each, closed_above}
use Rattle.cc_sorts.proofs.Decided.{is_some_number}
use Rattle.cc_sorts.proofs.Swaps.{same_swap}
use denote.Bor.{Bor}

abbrev pub Keys : Type 0
Keys = List (Bor (List ℕ))

or_assoc : (a b c : Bool) → ((a || b) || c) ≡ (a || (b || c))
or_assoc true b c = refl
or_assoc false b c = refl

or_false : (a : Bool) → a ≡ (a || false)
or_false true = refl
or_false false = refl

-- ---- names that are added

pub grows_none : (keys : Keys) → Grows keys keys []
grows_none keys = record { more = []; is_more = sym (append-nil keys); has = λ name. or_false (is_in name keys) }

pub grows_join : (one two three : Keys) (names others : List (List ℕ)) → Grows one two names → Grows two three others → Grows one three (names ++ others)
grows_join one two three names others first second = record {
  more = first.more ++ second.more;
  is_more = second.is_more ∙ ap (λ keys. keys ++ second.more) first.is_more ∙ append_assoc one first.more second.more;
  has = λ name.
      second.has name
      ∙ ap (λ t. t || list_any (same_text name) others) (first.has name)
      ∙ or_assoc (is_in name one) (list_any (same_text name) names) (list_any (same_text name) others)
      ∙ ap (λ t. is_in name one || t) (sym (list_any-append (same_text name) names others));
}

pub grows_one : (keys new : Keys) (key : Bor (List ℕ)) → new ≡ insert_key same_key keys key → Grows keys new (key.now ∷ [])
grows_one keys new key e = here (is_in key.now keys) refl
  where
    there : (name : List ℕ) (same : Bool) → same_text name key.now ≡ same → is_in key.now keys ≡ true → is_in name keys ≡ (is_in name keys || (same || false))
    there name true is has = let at : is_in name keys ≡ true = subst (λ (n : List ℕ). is_in n keys ≡ true) (sym ((bytes_decides name key.now).0 is)) has in at ∙ sym (ap (λ t. t || true) at)
    there name false is has = or_false (is_in name keys)

    here : (has : Bool) → is_in key.now keys ≡ has → Grows keys new (key.now ∷ [])
    here true is = record {
      more = [];
      is_more = e ∙ ap (λ t. if t then keys else keys ++ key ∷ []) is ∙ sym (append-nil keys);
      has = λ name. ap (is_in name) (e ∙ ap (λ t. if t then keys else keys ++ key ∷ []) is) ∙ there name (same_text name key.now) refl is;
    }
    here false is = record {
      more = key ∷ [];
      is_more = e ∙ ap (λ t. if t then keys else keys ++ key ∷ []) is;
      has = λ name. ap (is_in name) (e ∙ ap (λ t. if t then keys else keys ++ key ∷ []) is) ∙ list_any-append (λ k. same_text name k.now) keys (key ∷ []);
    }

-- a loop adds the view of another item
pub grows_more : {X : Type 0} (view : X → List ℕ) (start keys new : Keys) (items : List X) (i : ℕ) (d : X) (key : Bor (List ℕ)) → i < length items →
    new ≡ insert_key same_key keys key → key.now ≡ view (get_or items i d) →
    Grows start keys (map view (take i items)) → Grows start new (map view (take (i + 1) items))
grows_more view start keys new items i d key within is_new is_key so_far =
    subst (Grows start new)
    (ap (λ name. map view (take i items) ++ name ∷ []) is_key
    ∙ sym (map-append view (take i items) (get_or items i d ∷ []))
    ∙ ap (map view) (sym (take-suc items i d within) ∙ ap (λ k. take k items) (sym (add-one i))))
    (grows_join start keys new (map view (take i items)) (key.now ∷ []) so_far (grows_one keys new key is_new))

-- ---- the names of the sorts above one

pub numbers_below : {X : Type 0} (test : X → Bool) (count i : ℕ) (xs : List X) → i + length xs ≤ count → AreBelow count (numbers_where test i xs)
numbers_below test count i [] le = tt
numbers_below test count i (x ∷ xs) le = here (test x) (numbers_below test count (i + 1) xs (omega (arith, le)))
  where
    here : (b : Bool) → AreBelow count (numbers_where test (i + 1) xs) → AreBelow count (if b then i ∷ numbers_where test (i + 1) xs else numbers_where test (i + 1) xs)
    here true rest = (omega (arith, le), rest)
    here false rest = rest

named_where : (f : ℕ → List ℕ) (test : List ℕ → Bool) (i : ℕ) (names : List (List ℕ)) → ((k : ℕ) → k < length names → f (i + k) ≡ slice_index_or names k []) →
    map f (numbers_where test i names) ≡ filter test names
named_where f test i [] at = refl
named_where f test i (name ∷ names) at =
    here (test name) (named_where f test (i + 1) names (λ k h. ap f (let e : i + 1 + k ≡ i + suc k = omega arith in e) ∙ at (suc k) (omega (arith, h))))
  where
    here : (b : Bool) → map f (numbers_where test (i + 1) names) ≡ filter test names →
        map f (if b then i ∷ numbers_where test (i + 1) names else numbers_where test (i + 1) names) ≡ cond b (name ∷ filter test names) (filter test names)
    here true rest = ap (λ n. n ∷ map f (numbers_where test (i + 1) names)) (ap f (let e : i ≡ i + 0 = omega arith in e) ∙ at 0 (omega arith)) ∙ ap (λ ns. name ∷ ns) rest
    here false rest = rest

pub named_all : (sorts : SortsView) (test : List ℕ → Bool) → map (name_at sorts) (numbers_where test 0 sorts.names) ≡ filter test sorts.names
named_all sorts test = named_where (name_at sorts) test 0 sorts.names (λ k h. ap (name_at sorts) (let e : 0 + k ≡ k = omega arith in e))

-- ---- how long a search is

abbrev pub names_under : {Z : Type 0} → List (Bor (List ℕ) × Vec (Bor (List ℕ)) Z) → List (List ℕ)
names_under entries = flat_map (λ entry. map (λ text. text.now) entry.1.items) entries

-- all names that a search from a sort can find
abbrev pub bound : Left → List ℕ → List (List ℕ)
bound left lower = lower ∷ left.table.now.sorts.names ++ names_under left.uppers_of.entries

abbrev pub is_within : Left → List ℕ → Keys → Type 0
is_within left lower found = (name : List ℕ) → is_in name found ≡ true → list_any (same_text name) (bound left lower) ≡ true

-- ---- the number of a name

record FoundAt (name : List ℕ) (i : ℕ) (names : List (List ℕ)) (k : ℕ) : Type 0 where
  pub index : ℕ
  pub is_index : k ≡ i + index
  pub is_name : slice_index_or names index [] ≡ name
  pub there : list_any (same_text name) names ≡ true

found_from : (name : List ℕ) (i : ℕ) (names : List (List ℕ)) (k : ℕ) → position_from (same_text name) i names ≡ Some k → FoundAt name i names k
found_from name i [] k e = absurd cc
found_from name i (x ∷ names) k e = here (same_text name x) refl e (found_from name (i + 1) names k)
  where
    here : (same : Bool) → same_text name x ≡ same → cond same (Some i) (position_from (same_text name) (i + 1) names) ≡ Some k →
        (position_from (same_text name) (i + 1) names ≡ Some k → FoundAt name (i + 1) names k) → FoundAt name i (x ∷ names) k
    here true is e more = record {
      index = 0;
      is_index = (let h : i ≡ k = cc in omega (arith, h));
      is_name = sym ((bytes_decides name x).0 is);
      there = ap (λ t. t || list_any (same_text name) names) is;
    }
    here false is e more = let rest = more e in record {
      index = suc rest.index;
      is_index = omega (arith, rest.is_index);
      is_name = rest.is_name;
      there = ap (λ t. t || list_any (same_text name) names) is ∙ rest.there;
    }

pub uppers_by_number : (sorts : SortsView) (name : List ℕ) (number : ℕ) → Some number ≡ number_of sorts.names name →
    map (name_at sorts) (numbers_where (λ other. is_below sorts.pairs (name_at sorts number) other) 0 sorts.names) ≡ table_uppers sorts name
uppers_by_number sorts name number e =
    let at = found_from name 0 sorts.names number (sym (e ∙ position_from-zero (same_text name) sorts.names))
    in let h : number ≡ at.index = omega (arith, at.is_index)
    in named_all sorts (is_below sorts.pairs (name_at sorts number))
    ∙ ap (λ n. filter (is_below sorts.pairs n) sorts.names) (ap (name_at sorts) h ∙ at.is_name)
    ∙ sym (ap (λ t. if t then filter (is_below sorts.pairs name) sorts.names else []) at.there)

pub no_uppers : (sorts : SortsView) (name : List ℕ) → None ≡ number_of sorts.names name → table_uppers sorts name ≡ []
no_uppers sorts name e =
    ap (λ t. if t then filter (is_below sorts.pairs name) sorts.names else []) (sym (is_some_number sorts.names name) ∙ ap is_some (sym e))

-- ---- pairs

same_self : (pair : Pair) → same_pair pair pair ≡ true
same_self pair = ap (λ t. t && same_text pair.1 pair.1) ((bytes_decides pair.0 pair.0).1 refl) ∙ (bytes_decides pair.1 pair.1).1 refl

by_second_one : (a b : Bool) → b ≡ true → (a || b) ≡ true
by_second_one true b e = refl
by_second_one false b e = e

all_at : (P : Pair → Type 0) (pair : Pair) (some : List Pair) → AllByRecursion P some → list_any (same_pair pair) some ≡ true → P pair
all_at P pair [] all e = absurd cc
all_at P pair (other ∷ some) all e = here (either _ _ e) (all_at P pair some all.1)
  where
    here : (same_pair pair other ≡ true) ⊎ (list_any (same_pair pair) some ≡ true) → (list_any (same_pair pair) some ≡ true → P pair) → P pair
    here (inl same) rest =
        let s = both (same_text pair.0 other.0) (same_text pair.1 other.1) same
        in subst (λ (a : List ℕ). P (a, pair.1)) (sym ((bytes_decides pair.0 other.0).0 s.0))
        (subst (λ (b : List ℕ). P (other.0, b)) (sym ((bytes_decides pair.1 other.1).0 s.1)) all.0)
    here (inr more) rest = rest more

all_from : (P : Pair → Type 0) (some : List Pair) → ((pair : Pair) → list_any (same_pair pair) some ≡ true → P pair) → AllByRecursion P some
all_from P [] f = tt
all_from P (pair ∷ some) f = (
  f pair (by_first (same_pair pair pair) (list_any (same_pair pair) some) (same_self pair)),
  all_from P some (λ other h. f other (by_second_one (same_pair other pair) (list_any (same_pair other) some) h)),
)

below_pair : (some : List Pair) (pair : Pair) → list_any (same_pair pair) some ≡ true → is_below some pair.1 pair.0 ≡ true
below_pair some pair e = all_at (λ p. IsTrue (is_below some p.1 p.0)) pair some (below_each some) e

-- ---- the sorts above one

filter_step : (b c tu any rest : Bool) → (c ≡ true → tu ≡ b) → rest ≡ (tu && any) → cond b (c || rest) rest ≡ (tu && (c || any))
filter_step true true tu any rest f e = sym (ap (λ t. t && true) (f refl))
filter_step true false tu any rest f e = e
filter_step false true tu any rest f e = e ∙ ap (λ t. t && any) (f refl) ∙ sym (ap (λ t. t && true) (f refl))
filter_step false false tu any rest f e = e

has_filter : (name : List ℕ) (test : List ℕ → Bool) (names : List (List ℕ)) → list_any (same_text name) (filter test names) ≡ (test name && list_any (same_text name) names)
has_filter name test [] = sym (and_false (test name))
has_filter name test (x ∷ xs) =
    turn (test x)
    ∙ filter_step (test x) (same_text name x) (test name) (list_any (same_text name) xs) (list_any (same_text name) (filter test xs)) (λ same. ap test ((bytes_decides name x).0 same)) (has_filter name test xs)
  where
    turn : (b : Bool) → list_any (same_text name) (cond b (x ∷ filter test xs) (filter test xs)) ≡ cond b (same_text name x || list_any (same_text name) (filter test xs)) (list_any (same_text name) (filter test xs))
    turn true = refl
    turn false = refl

-- a sort above another by the table, by its test
of_table : (sorts : SortsView) (name upper : List ℕ) → list_any (same_text upper) (table_uppers sorts name) ≡ true →
    (is_below sorts.pairs name upper ≡ true) × (list_any (same_text upper) sorts.names ≡ true)
of_table sorts name upper e = here (list_any (same_text name) sorts.names) e
  where
    here : (b : Bool) → list_any (same_text upper) (if b then filter (is_below sorts.pairs name) sorts.names else []) ≡ true →
        (is_below sorts.pairs name upper ≡ true) × (list_any (same_text upper) sorts.names ≡ true)
    here true f = both _ _ (sym (has_filter upper (is_below sorts.pairs name) sorts.names) ∙ f)
    here false f = absurd cc

in_table : (sorts : SortsView) (name upper : List ℕ) → list_any (same_text name) sorts.names ≡ true → list_any (same_text upper) sorts.names ≡ true → is_below sorts.pairs name upper ≡ true →
    list_any (same_text upper) (table_uppers sorts name) ≡ true
in_table sorts name upper there is below =
    ap (λ b. list_any (same_text upper) (if b then filter (is_below sorts.pairs name) sorts.names else [])) there
    ∙ has_filter upper (is_below sorts.pairs name) sorts.names
    ∙ ap (λ t. t && list_any (same_text upper) sorts.names) below ∙ is

-- ---- what has its sorts above by the table

or_known : (a b : Bool) → (b ≡ true → a ≡ true) → a ≡ (a || b)
or_known true b f = refl
or_known false true f = f refl
or_known false false f = refl

pub grows_known : (found : Keys) (names : List (List ℕ)) → ((name : List ℕ) → list_any (same_text name) names ≡ true → is_in name found ≡ true) → Grows found found names
grows_known found names there = record {
  more = [];
  is_more = sym (append-nil found);
  has = λ name. or_known (is_in name found) (list_any (same_text name) names) (there name);
}

pub closed_none : (left : Left) (closed found : Keys) → closed ≡ [] → AreClosed left closed found
closed_none left closed found e = λ name upper h i. absurd (false≢true (sym (ap (is_in name) e) ∙ h))

pub closed_more : (left : Left) (closed found new : Keys) (names : List (List ℕ)) → AreClosed left closed found → Grows found new names → AreClosed left closed new
closed_more left closed found new names are grows = λ name upper h i. grows.has upper ∙ by_first (is_in upper found) (list_any (same_text upper) names) (are name upper h i)

pub closed_step : (left : Left) (closed more found new : Keys) (sort : List ℕ) → AreClosed left closed found → Grows found new (table_uppers left.table.now.sorts sort) →
    Grows closed more (table_uppers left.table.now.sorts sort) → AreClosed left more new
closed_step left closed more found new sort are grows marked = λ name upper h i. here name upper i (either _ _ (sym (marked.has name) ∙ h))
  where
    sorts : SortsView
    sorts = left.table.now.sorts

    there : (name : List ℕ) → list_any (same_text name) (table_uppers sorts sort) ≡ true → list_any (same_text sort) sorts.names ≡ true
    there name e = by (list_any (same_text sort) sorts.names) refl e
      where
        by : (b : Bool) → list_any (same_text sort) sorts.names ≡ b → list_any (same_text name) (if b then filter (is_below sorts.pairs sort) sorts.names else []) ≡ true → list_any (same_text sort) sorts.names ≡ true
        by true f g = f
        by false f g = absurd cc

    here : (name upper : List ℕ) → list_any (same_text upper) (table_uppers sorts name) ≡ true → (is_in name closed ≡ true) ⊎ (list_any (same_text name) (table_uppers sorts sort) ≡ true) → is_in upper new ≡ true
    here name upper i (inl h) = grows.has upper ∙ by_first (is_in upper found) (list_any (same_text upper) (table_uppers sorts sort)) (are name upper h i)
    here name upper i (inr h) =
        let first = of_table sorts sort name h in
        let second = of_table sorts name upper i in
        grows.has upper
        ∙ by_second_one (is_in upper found) (list_any (same_text upper) (table_uppers sorts sort))
        (in_table sorts sort upper (there name h) second.1 (below_through sorts.pairs sort name upper first.0 second.0))

sound_uppers : (left : Left) (declarations : List Declaration) (name upper : List ℕ) → IsLeft left declarations → list_any (same_text upper) (all_uppers left name) ≡ true →
    is_below (pairs declarations) name upper ≡ true
sound_uppers left declarations name upper is_left e =
    here (either _ _ (sym (list_any-append (same_text upper) (table_uppers left.table.now.sorts name) (new_uppers left name)) ∙ e))
  where
    from_table : (pair : Pair) → list_any (same_pair pair) left.table.now.sorts.pairs ≡ true → is_below (pairs declarations) pair.1 pair.0 ≡ true
    from_table pair h = below_pair (pairs declarations) pair (is_left.pairs_are pair ∙ by_first (list_any (same_pair pair) left.table.now.sorts.pairs) (list_any (λ other. same_pair pair (plain_pair other)) left.pairs.keys) h)

    here : (list_any (same_text upper) (table_uppers left.table.now.sorts name) ≡ true) ⊎ (list_any (same_text upper) (new_uppers left name) ≡ true) →
        is_below (pairs declarations) name upper ≡ true
    here (inl f) =
        closed_above (λ n. is_below (pairs declarations) name n) left.table.now.sorts.pairs name upper
        (all_from (λ pair. IsTrue (is_below (pairs declarations) name pair.1) → IsTrue (is_below (pairs declarations) name pair.0)) left.table.now.sorts.pairs
        (λ pair h below. below_through (pairs declarations) name pair.1 pair.0 below (from_table pair h)))
        (below_self (pairs declarations) name) (of_table left.table.now.sorts name upper f).0
    here (inr f) =
        below_pair (pairs declarations) (upper, name)
        (is_left.pairs_are (upper, name) ∙ by_second_one (list_any (same_pair (upper, name)) left.table.now.sorts.pairs) (list_any (λ other. same_pair (upper, name) (plain_pair other)) left.pairs.keys) (is_left.linked (upper, name) ∙ f))

closed_pair : (left : Left) (declarations : List Declaration) (pair : Pair) → IsLeft left declarations → list_any (same_pair pair) (pairs declarations) ≡ true →
    list_any (same_text pair.0) (all_uppers left pair.1) ≡ true
closed_pair left declarations pair is_left e =
    list_any-append (same_text pair.0) (table_uppers left.table.now.sorts pair.1) (new_uppers left pair.1)
    ∙ here (either _ _ (sym (is_left.pairs_are pair) ∙ e))
  where
    sort : (name : List ℕ) → is_sort is_left.base name ≡ true → list_any (same_text name) left.table.now.sorts.names ≡ true
    sort name h = ap (list_any (same_text name)) is_left.is_table.names ∙ h

    here : (list_any (same_pair pair) left.table.now.sorts.pairs ≡ true) ⊎ (list_any (λ other. same_pair pair (plain_pair other)) left.pairs.keys ≡ true) →
        (list_any (same_text pair.0) (table_uppers left.table.now.sorts pair.1) || list_any (same_text pair.0) (new_uppers left pair.1)) ≡ true
    here (inl f) =
        let known = both (is_sort is_left.base pair.0) (is_sort is_left.base pair.1)
        (all_at (λ p. IsTrue (is_sort is_left.base p.0 && is_sort is_left.base p.1)) pair (pairs is_left.base) is_left.is_table.known.of_pairs
        (ap (list_any (same_pair pair)) (sym is_left.is_table.pairs_are) ∙ f))
        in by_first _ _ (in_table left.table.now.sorts pair.1 pair.0 (sort pair.1 known.1) (sort pair.0 known.0) (below_pair left.table.now.sorts.pairs pair f))
    here (inr f) = by_second_one _ _ (sym (is_left.linked pair) ∙ f)

-- ---- the search

in_at : (found : Keys) (i : ℕ) (d : Bor (List ℕ)) → i < length found → is_in (get_or found i d).now found ≡ true
in_at [] i d h = absurd (omega (arith, h))
in_at (key ∷ found) zero d h = by_first _ _ ((bytes_decides key.now key.now).1 refl)
in_at (key ∷ found) (suc i) d h = by_second_one _ _ (in_at found i d (omega (arith, h)))

pub searched_first : (left : Left) (key : Bor (List ℕ)) → IsSearched left key.now (key ∷ []) 0
searched_first left key = record {
  from = by_first _ _ ((bytes_decides key.now key.now).1 refl);
  sound = λ name h declarations is_left. only name (pairs declarations) (either _ _ h);
  closed = λ name upper h. absurd cc;
}
  where
    only : (name : List ℕ) (some : List Pair) → (same_text name key.now ≡ true) ⊎ (false ≡ true) → is_below some key.now name ≡ true
    only name some (inl same) = subst (λ (n : List ℕ). is_below some key.now n ≡ true) (sym ((bytes_decides name key.now).0 same)) (below_self some key.now)
    only name some (inr e) = absurd cc

searched_more : (left : Left) (lower : List ℕ) (found new : Keys) (done : ℕ) (d : Bor (List ℕ)) → done < length found →
    Grows found new (all_uppers left (get_or found done d).now) → IsSearched left lower found done → IsSearched left lower new (done + 1)
searched_more left lower found new done d within grows so_far = record {
  from = grows.has lower ∙ by_first _ _ so_far.from;
  sound = λ name h declarations is_left. sound name declarations is_left (either _ _ (sym (grows.has name) ∙ h));
  closed = λ name upper h e. grows.has upper ∙ closed name upper e (either _ _ (sym (list_any-append (λ k. same_text name k.now) (take done found) (get_or found done d ∷ [])) ∙ sym (ap (is_in name) front) ∙ h));
}
  where
    front : take (done + 1) new ≡ take done found ++ get_or found done d ∷ []
    front = ap (take (done + 1)) grows.is_more ∙ take-append-le (done + 1) found grows.more (omega (arith, within)) ∙ ap (λ k. take k found) (add-one done) ∙ take-suc found done d within

    sound : (name : List ℕ) (declarations : List Declaration) → IsLeft left declarations →
        (is_in name found ≡ true) ⊎ (list_any (same_text name) (all_uppers left (get_or found done d).now) ≡ true) → is_below (pairs declarations) lower name ≡ true
    sound name declarations is_left (inl h) = so_far.sound name h declarations is_left
    sound name declarations is_left (inr h) =
        below_through (pairs declarations) lower (get_or found done d).now name
        (so_far.sound (get_or found done d).now (in_at found done d within) declarations is_left)
        (sound_uppers left declarations (get_or found done d).now name is_left h)

    closed : (name upper : List ℕ) → list_any (same_text upper) (all_uppers left name) ≡ true →
        (is_in name (take done found) ≡ true) ⊎ ((same_text name (get_or found done d).now || false) ≡ true) →
        (is_in upper found || list_any (same_text upper) (all_uppers left (get_or found done d).now)) ≡ true
    closed name upper e (inl h) = by_first _ _ (so_far.closed name upper h e)
    closed name upper e (inr h) =
        by_second_one (is_in upper found) _
        (subst (λ (n : List ℕ). list_any (same_text upper) (all_uppers left n) ≡ true) ((bytes_decides name (get_or found done d).now).0 (or_false (same_text name (get_or found done d).now) ∙ h)) e)

got_at : (found : Keys) (i : ℕ) (key : Bor (List ℕ)) → slice_get found i ≡ Some key → get_or found i key ≡ key
got_at [] i key e = refl
got_at (other ∷ found) zero key e = let h : other ≡ key = cc in h
got_at (other ∷ found) (suc i) key e = got_at found i key e

pub searched_step : (left : Left) (lower : List ℕ) (found new : Keys) (done : ℕ) (key : Bor (List ℕ)) → slice_get found done ≡ Some key →
    Grows found new (all_uppers left key.now) → IsSearched left lower found done → IsSearched left lower new (done + 1)
searched_step left lower found new done key e grows so_far =
    searched_more left lower found new done key (slice_get_within found done key e)
    (subst (λ (k : Bor (List ℕ)). Grows found new (all_uppers left k.now)) (sym (got_at found done key e)) grows) so_far

pub searched_all : (left : Left) (lower : List ℕ) (found : Keys) (done : ℕ) → length found ≤ done → IsSearched left lower found done → IsSearched left lower found (length found)
searched_all left lower found done past so_far = record {
  from = so_far.from;
  sound = so_far.sound;
  closed = λ name upper h. so_far.closed name upper (ap (is_in name) (take_all done found past ∙ sym (take_all (length found) found (omega arith))) ∙ h);
}

both_ways : (a b : Bool) → (a ≡ true → b ≡ true) → (b ≡ true → a ≡ true) → a ≡ b
both_ways true b f g = sym (f refl)
both_ways false true f g = g refl
both_ways false false f g = refl

pub found_is_below : (left : Left) (declarations : List Declaration) (lower upper : List ℕ) (found : Keys) → IsSearched left lower found (length found) → IsLeft left declarations →
    is_in upper found ≡ is_below (pairs declarations) lower upper
found_is_below left declarations lower upper found searched is_left =
    both_ways _ _ (λ h. searched.sound upper h declarations is_left)
    (closed_above (λ n. is_in n found) (pairs declarations) lower upper
    (all_from (λ pair. IsTrue (is_in pair.1 found) → IsTrue (is_in pair.0 found)) (pairs declarations)
    (λ pair h at. searched.closed pair.1 pair.0 (ap (is_in pair.1) (take_all (length found) found (omega arith)) ∙ at) (closed_pair left declarations pair is_left h)))
    searched.from)

-- ---- that it ends

pub within_first : (left : Left) (key : Bor (List ℕ)) → is_within left key.now (key ∷ [])
within_first left key = λ name h. by_first (same_text name key.now) _ (or_false (same_text name key.now) ∙ h)

under_has : {Z : Type 0} (entries : List (Bor (List ℕ) × Vec (Bor (List ℕ)) Z)) (name upper : List ℕ) → list_any (same_text upper) (uppers_in entries name) ≡ true →
    list_any (same_text upper) (names_under entries) ≡ true
under_has [] name upper e = absurd cc
under_has (entry ∷ entries) name upper e =
    list_any-append (same_text upper) (map (λ text. text.now) entry.1.items) (names_under entries)
    ∙ here (same_text name entry.0.now) e (under_has entries name upper)
  where
    here : (b : Bool) → list_any (same_text upper) (texts_of (cond b (Some entry.1) (lookup (λ key. same_text name key.now) entries))) ≡ true →
        (list_any (same_text upper) (uppers_in entries name) ≡ true → list_any (same_text upper) (names_under entries) ≡ true) →
        (list_any (same_text upper) (map (λ text. text.now) entry.1.items) || list_any (same_text upper) (names_under entries)) ≡ true
    here true e more = by_first _ _ e
    here false e more = by_second_one _ _ (more e)

pub within_more : (left : Left) (lower name : List ℕ) (found new : Keys) → Grows found new (all_uppers left name) → is_within left lower found → is_within left lower new
within_more left lower name found new grows so_far = λ other h. here other (either _ _ (sym (grows.has other) ∙ h))
  where
    above : (other : List ℕ) → (list_any (same_text other) (table_uppers left.table.now.sorts name) ≡ true) ⊎ (list_any (same_text other) (new_uppers left name) ≡ true) →
        (list_any (same_text other) left.table.now.sorts.names || list_any (same_text other) (names_under left.uppers_of.entries)) ≡ true
    above other (inl e) = by_first _ _ (of_table left.table.now.sorts name other e).1
    above other (inr e) = by_second_one _ _ (under_has left.uppers_of.entries name other e)

    here : (other : List ℕ) → (is_in other found ≡ true) ⊎ (list_any (same_text other) (all_uppers left name) ≡ true) → list_any (same_text other) (bound left lower) ≡ true
    here other (inl e) = so_far other e
    here other (inr e) =
        by_second_one (same_text other lower) _
        (list_any-append (same_text other) left.table.now.sorts.names (names_under left.uppers_of.entries)
        ∙ above other (either _ _ (sym (list_any-append (same_text other) (table_uppers left.table.now.sorts name) (new_uppers left name)) ∙ e)))

abbrev pub the_key : List ℕ → Bor (List ℕ)
the_key name = record { ref_ptr = (0, 0); now = name }

same_keys : IsEquivalence same_key
same_keys = record {
  refl = λ x. nat_list_eq_equiv.refl x.now;
  symm = λ x y. nat_list_eq_equiv.symm x.now y.now;
  congr = λ x y z. nat_list_eq_equiv.congr x.now y.now z.now;
}

any_key : (name : List ℕ) (names : List (List ℕ)) → list_any (same_text name) names ≡ list_any (λ key. same_text name key.now) (map the_key names)
any_key name [] = refl
any_key name (x ∷ xs) = ap (λ t. same_text name x || t) (any_key name xs)

pub few_found : (left : Left) (lower : List ℕ) (found : Keys) → is_within left lower found → IsDistinct same_key found → length found ≤ length (bound left lower)
few_found left lower found within distinct =
    subst (λ n. length found ≤ n) (length-map (bound left lower) the_key)
    (length-le_from_is_member same_keys found (map the_key (bound left lower)) distinct (λ q h. sym (any_key q.now (bound left lower)) ∙ within q.now h))

-- ---- a pair that is added by its lower sort

pub upper_added : {Z : Type 0} (old new : List (Bor (List ℕ) × Vec (Bor (List ℕ)) Z)) (pushed : Vec (Bor (List ℕ)) Z) (upper lower : List ℕ) (other : Pair) →
    map (λ text. text.now) pushed.items ≡ uppers_in old lower ++ upper ∷ [] →
    lookup (λ key. same_text other.1 key.now) new ≡ cond (same_text lower other.1) (Some pushed) (lookup (λ key. same_text other.1 key.now) old) →
    list_any (same_text other.0) (uppers_in new other.1) ≡ (list_any (same_text other.0) (uppers_in old other.1) || same_pair other (upper, lower))
upper_added {Z} old new pushed upper lower other is_pushed e = here (same_text lower other.1) refl e
  where
    tail : (a b : Bool) → b ≡ true → (a || false) ≡ (a && b)
    tail true b f = sym f
    tail false b f = refl

    here : (b : Bool) → same_text lower other.1 ≡ b → lookup (λ key. same_text other.1 key.now) new ≡ cond b (Some pushed) (lookup (λ key. same_text other.1 key.now) old) →
        list_any (same_text other.0) (uppers_in new other.1) ≡ (list_any (same_text other.0) (uppers_in old other.1) || same_pair other (upper, lower))
    here true same f =
        ap (λ (o : Option (Vec (Bor (List ℕ)) Z)). list_any (same_text other.0) (texts_of o)) f
        ∙ ap (list_any (same_text other.0)) is_pushed
        ∙ list_any-append (same_text other.0) (uppers_in old lower) (upper ∷ [])
        ∙ ap (λ (n : List ℕ). list_any (same_text other.0) (uppers_in old n) || (same_text other.0 upper || false)) ((bytes_decides lower other.1).0 same)
        ∙ ap (λ t. list_any (same_text other.0) (uppers_in old other.1) || t) (tail (same_text other.0 upper) (same_text other.1 lower) (same_swap other.1 lower ∙ same))
    here false same f =
        ap (λ (o : Option (Vec (Bor (List ℕ)) Z)). list_any (same_text other.0) (texts_of o)) f
        ∙ or_false (list_any (same_text other.0) (uppers_in old other.1))
        ∙ ap (λ t. list_any (same_text other.0) (uppers_in old other.1) || t)
        (sym (ap (λ t. same_text other.0 upper && t) (same_swap other.1 lower ∙ same) ∙ and_false (same_text other.0 upper)))

pub texts_pushed : {Z : Type 0} (pushed : Vec (Bor (List ℕ)) Z) (items : Keys) (key : Bor (List ℕ)) (found : Option (Vec (Bor (List ℕ)) Z)) →
    pushed.items ≡ items ++ key ∷ [] → map (λ text. text.now) items ≡ texts_of found → map (λ text. text.now) pushed.items ≡ texts_of found ++ key.now ∷ []
texts_pushed {Z} pushed items key found e f =
    ap (λ (keys : Keys). map (λ text. text.now) keys) e ∙ map-append (λ (text : Bor (List ℕ)). text.now) items (key ∷ []) ∙ ap (λ names. names ++ key.now ∷ []) f
