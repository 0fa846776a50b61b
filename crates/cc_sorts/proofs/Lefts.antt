-- What is left of a declaration, and another declaration behind it.
use Rattle.std.proofs.Common.{◌≡◌, ◌≢◌, ◌⊎◌, inl, inr, eqb, get_or, unwrap_or, is_none, is_some, ◌∙◌, ℕ, Bool, true, false, cond, ◌||◌, ◌&&◌, List, [], ◌∷◌, ◌++◌, map, flat_map, reverse, if◌then◌else◌, Option, Some, None, codes, refl, sym, ap, subst}
use Rattle.std.specs.Cmp.Lexicographic.{bytes_decides}
use Rattle.std.specs.List.{list_any, list_all, find}
use Rattle.std.specs.Map.{lookup}
use Rattle.std.specs.Option.{option_map, option_or}
use Rattle.std.proofs.lemmas.Grind.{flat_map-append}
use Rattle.std.proofs.lemmas.List.{map-append, reverse-append}
use Rattle.std.proofs.lemmas.List.Folds.{list_any-append, find-append}
use Rattle.cc_defs.specs.DeclarationFaults.{is_sort, are_sorts, is_taken, same_pair, constant_named}
use Rattle.cc_defs.specs.Declarations.{Declaration, sort_names, number_in, Declared, Named, Pair, Put, named_put, boolean, firsts_behind, sort_named, pair_declared, pairs, put_declared, puts, variable_declared, variables, constant_declared, constants, constant_names}
use Rattle.cc_defs.specs.Grammar.{same_text}
use Rattle.std.proofs.lemmas.Bool.Decides.{eqb_tells}
use Rattle.std.proofs.lemmas.List.Quantifiers.{position-Some}
use Rattle.cc_sorts.specs.declared.table.PutAt.{PutAt}
use Rattle.cc_sorts.specs.Dictionaries.{names_of, number_of}
use Rattle.cc_sorts.specs.Entered.{IsEntered}
use Rattle.cc_sorts.specs.Tables.{TableView, Numbered, numbered, placed_of}
use Rattle.cc_sorts.proofs.Grown.{has_of, put_by, put_names, named_of, first_by, numbered_by, ArePut, AreOwned, owned_by}
use Rattle.cc_sorts.proofs.Decided.{is_some_number}
use Rattle.cc_sorts.proofs.Swaps.{or_false, same_swap}
use Rattle.cc_sorts.specs.Lefts.{is_numbered, is_number_from, is_put_as, is_put_from, has_put_from, table_has_from, meets, plain_pair, uppers_in, has_sort, has_name, left_has_sort, IsLeft, Adds, takes, shaped, plain_constant, left_constant}
use Rattle.cc_sorts.specs.declared.left.Constant.{Constant as Constant'}
use Rattle.cc_sorts.specs.declared.left.Left.{Left}
use denote.Bor.{Bor}

-- ---- tests

or_true : (a : Bool) → (a || true) ≡ true
or_true true = refl
or_true false = refl

or_swap : (a b : Bool) → (a || b) ≡ (b || a)
or_swap true b = sym (or_true b)
or_swap false b = sym (or_false b)

seen_already : (p f n s : Bool) → (p ≡ true → s ≡ true) → (f || s) ≡ (n || s) → (f || s) ≡ ((p || n) || s)
seen_already true f n s there e = ap (λ t. f || t) (there refl) ∙ or_true f
seen_already false f n s there e = e

first_here : (p f n s : Bool) → (f || (p || s)) ≡ (n || (p || s)) → ((p || f) || s) ≡ ((p || n) || s)
first_here true f n s e = refl
first_here false f n s e = e

three_more : (x y z a b c : Bool) → ((x || a) || ((y || b) || (z || c))) ≡ ((x || (y || z)) || (a || (b || c)))
three_more true y z a b c = refl
three_more false true z true b c = refl
three_more false true z false b c = refl
three_more false false true true b c = refl
three_more false false true false b c = or_true b
three_more false false false true b c = refl
three_more false false false false b c = refl

-- ---- the sorts

firsts_have : (name : List ℕ) (seen names : List (List ℕ)) →
    (list_any (same_text name) (firsts_behind seen names) || list_any (same_text name) seen) ≡ (list_any (same_text name) names || list_any (same_text name) seen)
firsts_have name seen [] = refl
firsts_have name seen (x ∷ names) = here (list_any (same_text x) seen) refl (firsts_have name seen names) (firsts_have name (x ∷ seen) names)
  where
    there : list_any (same_text x) seen ≡ true → same_text name x ≡ true → list_any (same_text name) seen ≡ true
    there e same = subst (λ (y : List ℕ). list_any (same_text y) seen ≡ true) (sym ((bytes_decides name x).0 same)) e

    here : (had : Bool) → list_any (same_text x) seen ≡ had →
        (list_any (same_text name) (firsts_behind seen names) || list_any (same_text name) seen) ≡ (list_any (same_text name) names || list_any (same_text name) seen) →
        (list_any (same_text name) (firsts_behind (x ∷ seen) names) || list_any (same_text name) (x ∷ seen)) ≡ (list_any (same_text name) names || list_any (same_text name) (x ∷ seen)) →
        (list_any (same_text name) (if had then firsts_behind seen names else x ∷ firsts_behind (x ∷ seen) names) || list_any (same_text name) seen)
        ≡ ((same_text name x || list_any (same_text name) names) || list_any (same_text name) seen)
    here true e old new = seen_already (same_text name x) _ _ _ (there e) old
    here false e old new = first_here (same_text name x) _ _ _ new

sort_among : (left : List Declaration) (name : List ℕ) → is_sort left name ≡ list_any (same_text name) (boolean ∷ flat_map sort_named left)
sort_among left name =
    sym (or_false (is_sort left name)) ∙ firsts_have name [] (boolean ∷ flat_map sort_named left)
    ∙ or_false (list_any (same_text name) (boolean ∷ flat_map sort_named left))

pub sort_more : (left ds : List Declaration) (name : List ℕ) → is_sort (left ++ ds) name ≡ (is_sort left name || list_any (same_text name) (flat_map sort_named ds))
sort_more left ds name =
    sort_among (left ++ ds) name
    ∙ ap (λ names. list_any (same_text name) (boolean ∷ names)) (flat_map-append sort_named left ds)
    ∙ list_any-append (same_text name) (boolean ∷ flat_map sort_named left) (flat_map sort_named ds)
    ∙ ap (λ had. had || list_any (same_text name) (flat_map sort_named ds)) (sym (sort_among left name))

-- ---- the names

join : (x y z a b c x' y' z' : Bool) → x' ≡ (x || a) → y' ≡ (y || b) → z' ≡ (z || c) → (x' || (y' || z')) ≡ ((x || (y || z)) || (a || (b || c)))
join x y z a b c x' y' z' e f g =
    ap (λ t. t || (y' || z')) e ∙ ap (λ t. (x || a) || (t || z')) f ∙ ap (λ t. (x || a) || ((y || b) || t)) g ∙ three_more x y z a b c

pub put_more : (left ds : List Declaration) (test : Put → Bool) → list_any test (puts (left ++ ds)) ≡ (list_any test (puts left) || list_any test (flat_map put_declared ds))
put_more left ds test =
    ap (λ (xs : List Put). list_any test (named_put (codes "false") boolean ∷ named_put (codes "true") boolean ∷ xs)) (flat_map-append put_declared left ds)
    ∙ list_any-append test (puts left) (flat_map put_declared ds)

pub taken_more : (left ds : List Declaration) (name : List ℕ) → is_taken (left ++ ds) name ≡ (is_taken left name || takes name ds)
taken_more left ds name =
    join (list_any (λ (put : Put). is_none put.number && same_text name put.name) (puts left)) (list_any (λ (named : Named). same_text name named.0) (variables left)) (list_any (same_text name) (constant_names left))
    (list_any (λ (put : Put). is_none put.number && same_text name put.name) (flat_map put_declared ds)) (list_any (λ (named : Named). same_text name named.0) (flat_map variable_declared ds))
    (list_any (same_text name) (map (λ constant. constant.shape.name) (flat_map constant_declared ds))) _ _ _
    (put_more left ds (λ (put : Put). is_none put.number && same_text name put.name))
    (ap (list_any (λ (named : Named). same_text name named.0)) (flat_map-append variable_declared left ds) ∙ list_any-append (λ (named : Named). same_text name named.0) (variables left) (flat_map variable_declared ds))
    (ap (list_any (same_text name)) (ap (map (λ constant. constant.shape.name)) (flat_map-append constant_declared left ds) ∙ map-append (λ (constant : Declared). constant.shape.name) (constants left) (flat_map constant_declared ds))
    ∙ list_any-append (same_text name) (constant_names left) (map (λ constant. constant.shape.name) (flat_map constant_declared ds)))

-- ---- the pairs

any_reverse : (test : Pair → Bool) (ps : List Pair) → list_any test (reverse ps) ≡ list_any test ps
any_reverse test [] = refl
any_reverse test (p ∷ ps) =
    ap (list_any test) (reverse-append (p ∷ []) ps)
    ∙ list_any-append test (reverse ps) (p ∷ [])
    ∙ or_swap (list_any test (reverse ps)) (test p || false)
    ∙ ap (λ t. t || list_any test (reverse ps)) (or_false (test p))
    ∙ ap (λ t. test p || t) (any_reverse test ps)

pub pair_more : (left ds : List Declaration) (test : Pair → Bool) →
    list_any test (pairs (left ++ ds)) ≡ (list_any test (pairs left) || list_any test (flat_map pair_declared ds))
pair_more left ds test =
    ap (λ xs. list_any test (reverse xs)) (flat_map-append pair_declared left ds)
    ∙ ap (list_any test) (reverse-append (flat_map pair_declared left) (flat_map pair_declared ds))
    ∙ list_any-append test (reverse (flat_map pair_declared ds)) (pairs left)
    ∙ ap (λ had. had || list_any test (pairs left)) (any_reverse test (flat_map pair_declared ds))
    ∙ or_swap (list_any test (flat_map pair_declared ds)) (list_any test (pairs left))

-- ---- the constants

map_or : {X Y : Type 0} (f : X → Y) (o p : Option X) → option_map f (option_or o p) ≡ option_or (option_map f o) (option_map f p)
map_or f None p = refl
map_or f (Some x) p = refl

option_or_assoc : {X : Type 0} (o p q : Option X) → option_or (option_or o p) q ≡ option_or o (option_or p q)
option_or_assoc None p q = refl
option_or_assoc (Some x) p q = refl

pub or_none : {X : Type 0} (o : Option X) → option_or o None ≡ o
or_none None = refl
or_none (Some x) = refl

constant_more : (left ds : List Declaration) (name : List ℕ) →
    option_map shaped (constant_named (left ++ ds) name)
    ≡ option_or (option_map shaped (constant_named left name)) (option_map shaped (find (λ constant. same_text name constant.shape.name) (flat_map constant_declared ds)))
constant_more left ds name =
    ap (λ found. option_map shaped (find (λ constant. same_text name constant.shape.name) found)) (flat_map-append constant_declared left ds)
    ∙ ap (option_map shaped) (find-append (λ constant. same_text name constant.shape.name) (constants left) (flat_map constant_declared ds))
    ∙ map_or shaped _ _

-- ---- what is left

or_joins : (whole old new added : Bool) → whole ≡ old → new ≡ (old || added) → (whole || added) ≡ new
or_joins whole old new added e f = ap (λ t. t || added) e ∙ sym f

pub left_more : (old new : Left) (left ds : List Declaration) → IsLeft old left → Adds old new ds → IsLeft new (left ++ ds)
left_more old new left ds is_left adds = record {
  sorts_are = λ name. sort_more left ds name ∙ or_joins _ _ _ (list_any (same_text name) (flat_map sort_named ds)) (is_left.sorts_are name) (adds.sorts_are name);
  names_are = λ name. taken_more left ds name ∙ or_joins _ _ _ (takes name ds) (is_left.names_are name) (adds.names_are name);
  numbers_are = λ low high sort. put_more left ds (has_put_from low high sort)
      ∙ or_joins _ _ _ (list_any (has_put_from low high sort) (flat_map put_declared ds)) (is_left.numbers_are low high sort) (adds.numbers_are low high sort);
  pairs_are = λ pair. pair_more left ds (same_pair pair) ∙ or_joins _ _ _ (list_any (same_pair pair) (flat_map pair_declared ds)) (is_left.pairs_are pair) (adds.pairs_are pair);
  uppers_are = λ name. pair_more left ds (λ pair. same_text name pair.0) ∙ or_joins _ _ _ (list_any (λ pair. same_text name pair.0) (flat_map pair_declared ds)) (is_left.uppers_are name) (adds.uppers_are name);
  linked = adds.linked is_left.linked;
  base = is_left.base;
  is_table = subst (λ (t : Bor TableView). IsEntered t.now is_left.base) (sym adds.table_is) is_left.is_table;
  constants_are = λ name. constant_more left ds name
      ∙ ap (λ o. option_or o (option_map shaped (find (λ constant. same_text name constant.shape.name) (flat_map constant_declared ds)))) (is_left.constants_are name)
      ∙ option_or_assoc (option_map shaped (constant_named is_left.base name)) (left_constant old name) _
      ∙ ap (option_or (option_map shaped (constant_named is_left.base name))) (sym (adds.constants_are name));
}

-- ---- what a table has

one_number : (names : List (List ℕ)) (sort other : List ℕ) (k : ℕ) → number_of names sort ≡ Some k → number_of names other ≡ Some k → sort ≡ other
one_number names sort other k e f =
    (bytes_decides sort (get_or names k [])).0 (position-Some (same_text sort) names k [] e).1
    ∙ sym ((bytes_decides other (get_or names k [])).0 (position-Some (same_text other) names k [] f).1)

names_numbered : (declarations : List Declaration) (name : List ℕ) (named : List Named) →
    list_any (λ entry. same_text name entry.0) named ≡ list_any (same_text name) (names_of (numbered declarations named))
names_numbered declarations name [] = refl
names_numbered declarations name (entry ∷ named) = ap (λ had. same_text name entry.0 || had) (names_numbered declarations name named)

names_placed : (declarations : List Declaration) (found : List Declared) →
    map (λ placed. placed.symbol.name) (placed_of declarations found) ≡ map (λ constant. constant.shape.name) found
names_placed declarations [] = refl
names_placed declarations (constant ∷ found) = ap (λ names. constant.shape.name ∷ names) (names_placed declarations found)

both_or : (x y z x' y' z' : Bool) → x ≡ x' → y ≡ y' → z ≡ z' → (x || (y || z)) ≡ (x' || (y' || z'))
both_or x y z x' y' z' e f g = ap (λ t. t || (y || z)) e ∙ ap (λ t. x' || (t || z)) f ∙ ap (λ t. x' || (y' || t)) g

-- a sort by its name and by its number
pub numbered_same : (names : List (List ℕ)) (sort other : List ℕ) → list_any (same_text other) names ≡ true →
    is_numbered (number_of names sort) (number_in names other) ≡ same_text sort other
numbered_same names sort other there = here (number_of names other) (number_of names sort) refl refl (is_some_number names other ∙ there)
  where
    distinct : (same : Bool) → same_text sort other ≡ same → (sort ≢ other) → false ≡ same
    distinct true e differ = absurd (differ ((bytes_decides sort other).0 e))
    distinct false e differ = refl

    at : (m k : ℕ) → number_of names other ≡ Some m → number_of names sort ≡ Some k → ((eqb k m ≡ true) × (k ≡ m)) ⊎ ((eqb k m ≡ false) × (k ≢ m)) → eqb k m ≡ same_text sort other
    at m k e f (inl same) = same.0 ∙ sym ((bytes_decides sort other).1 (one_number names sort other m (f ∙ ap Some same.1) e))
    at m k e f (inr differ) = differ.0 ∙ distinct (same_text sort other) refl (λ s. differ.1 (cc (sym f ∙ ap (number_of names) s ∙ e))) ∙ refl

    here : (o p : Option ℕ) → number_of names other ≡ o → number_of names sort ≡ p → is_some (number_of names other) ≡ true → is_numbered p (unwrap_or o 0) ≡ same_text sort other
    here None p e f some = absurd (cc (ap is_some (sym e) ∙ some))
    here (Some m) None e f some = distinct (same_text sort other) refl (λ s. cc (sym f ∙ ap (number_of names) s ∙ e))
    here (Some m) (Some k) e f some = at m k e f (eqb_tells k m)

-- what was put as a name
named_there : (names owners : List (List ℕ)) (name : List ℕ) (os : List Put) → AreOwned owners os →
    list_any (λ put. is_none put.number && same_text name put.name) os ≡ list_any (is_put_as (number_of owners name)) (map (put_by names owners) os)
named_there names owners name [] all = refl
named_there names owners name (o ∷ os) all =
    ap (λ t. (is_none o.number && t) || list_any (λ (put : Put). is_none put.number && same_text name put.name) os) (sym (numbered_same owners name o.name all.0))
    ∙ ap (λ t. (is_none o.number && is_numbered (number_of owners name) (number_in owners o.name)) || t) (named_there names owners name os all.1)

number_there : (names owners : List (List ℕ)) (low high : ℕ) (sort : List ℕ) (os : List Put) → ArePut names os →
    list_any (has_put_from low high sort) os ≡ list_any (is_put_from low high (number_of names sort)) (map (put_by names owners) os)
number_there names owners low high sort [] all = refl
number_there names owners low high sort (o ∷ os) all =
    ap (λ t. (is_number_from low high o.number && t) || list_any (has_put_from low high sort) os) (sym (numbered_same names sort o.sort all.0))
    ∙ ap (λ t. (is_number_from low high o.number && is_numbered (number_of names sort) (number_in names o.sort)) || t) (number_there names owners low high sort os all.1)

puts_named : (names : List (List ℕ)) (os : List Put) → names_of (numbered_by names (named_of os)) ≡ put_names os
puts_named names [] = refl
puts_named names (o ∷ os) = ap (λ (w : List (List ℕ)). o.name ∷ w) (puts_named names os)

taken_there : (table : TableView) (left : List Declaration) (name : List ℕ) → IsEntered table left → is_taken left name ≡ has_name table name
taken_there table left name is_table =
    let has = has_of table left is_table in
    both_or _ _ _ _ _ _
    (named_there (sort_names left) (put_names (first_by (puts left))) name (puts left) (owned_by (puts left))
    ∙ ap (λ (w : List PutAt). list_any (is_put_as (number_of (put_names (first_by (puts left))) name)) w) (sym has.puts_are)
    ∙ ap (λ (w : List (List ℕ)). list_any (is_put_as (number_of w name)) table.puts)
    (sym (ap (λ (w : List Numbered). names_of w) has.objects_are ∙ puts_named (sort_names left) (first_by (puts left)))))
    (names_numbered left name (variables left) ∙ ap (λ entries. list_any (same_text name) (names_of entries)) (sym is_table.variables_are))
    (ap (list_any (same_text name)) (sym (names_placed left (constants left)))
    ∙ ap (λ symbols. list_any (same_text name) (map (λ placed. placed.symbol.name) symbols)) (sym is_table.symbols_are))

from_there : (table : TableView) (left : List Declaration) (low high : ℕ) (sort : List ℕ) → IsEntered table left → list_any (has_put_from low high sort) (puts left) ≡ table_has_from table low high sort
from_there table left low high sort is_table =
    let has = has_of table left is_table in
    number_there (sort_names left) (put_names (first_by (puts left))) low high sort (puts left) has.of_puts
    ∙ ap (λ (w : List PutAt). list_any (is_put_from low high (number_of (sort_names left) sort)) w) (sym has.puts_are)
    ∙ ap (λ (w : List (List ℕ)). list_any (is_put_from low high (number_of w sort)) table.puts) (sym has.names_are)

none_more : {X : Type 0} (test : X → Bool) (has : Bool) (keys : List X) → keys ≡ [] → has ≡ (has || list_any test keys)
none_more test has keys e = sym (or_false has) ∙ ap (λ xs. has || list_any test xs) (sym e)

pub left_of_table : (left : Left) (declarations : List Declaration) → IsEntered left.table.now declarations →
    left.sorts.keys ≡ [] → left.names.keys ≡ [] → left.ranges.items ≡ [] → left.constants.entries ≡ [] → left.pairs.keys ≡ [] → left.uppers.keys ≡ [] → left.uppers_of.entries ≡ [] → IsLeft left declarations
left_of_table left declarations is_table no_sorts no_names no_ranges no_constants no_pairs no_uppers none_of = record {
  linked = λ pair. ap (list_any (λ other. same_pair pair (plain_pair other))) no_pairs ∙ sym (ap (λ entries. list_any (same_text pair.0) (uppers_in entries pair.1)) none_of);
  uppers_are = λ name. ap (list_any (λ pair. same_text name pair.0)) (sym is_table.pairs_are) ∙ none_more _ (list_any (λ pair. same_text name pair.0) left.table.now.sorts.pairs) left.uppers.keys no_uppers;
  base = declarations;
  is_table = is_table;
  constants_are = λ name.
      sym (or_none (option_map shaped (constant_named declarations name)))
      ∙ ap (λ (entries : List (Bor (List ℕ) × Constant')). option_or (option_map shaped (constant_named declarations name)) (option_map plain_constant (lookup (λ (key : Bor (List ℕ)). same_text name key.now) entries))) (sym no_constants);
  sorts_are = λ name. ap (list_any (same_text name)) (sym is_table.names) ∙ none_more _ (has_sort left.table.now name) left.sorts.keys no_sorts;
  names_are = λ name. taken_there left.table.now declarations name is_table ∙ none_more _ (has_name left.table.now name) left.names.keys no_names;
  numbers_are = λ low high sort. from_there left.table.now declarations low high sort is_table ∙ none_more (meets low high sort) (table_has_from left.table.now low high sort) left.ranges.items no_ranges;
  pairs_are = λ pair. ap (list_any (same_pair pair)) (sym is_table.pairs_are) ∙ none_more _ (list_any (same_pair pair) left.table.now.sorts.pairs) left.pairs.keys no_pairs;
}

-- ---- what is added

added : (table old new same : Bool) → new ≡ cond same true old → (table || new) ≡ ((table || old) || same)
added true old new same e = refl
added false old new true e = e ∙ sym (or_true old)
added false old new false e = e ∙ sym (or_false old)

same_pair_swap : (x y : Pair) → same_pair x y ≡ same_pair y x
same_pair_swap x y = ap (λ t. t && same_text x.1 y.1) (same_swap x.0 y.0) ∙ ap (λ t. same_text y.0 x.0 && t) (same_swap x.1 y.1)

pub name_added : (table old new : Bool) (name other : List ℕ) → new ≡ cond (same_text name other) true old → (table || new) ≡ ((table || old) || (same_text other name || false))
name_added table old new name other e =
    added table old new (same_text other name) (e ∙ ap (λ same. cond same true old) (same_swap name other))
    ∙ ap (λ t. (table || old) || t) (sym (or_false (same_text other name)))

pub pair_added : (table old new : Bool) (pair other : Pair) → new ≡ cond (same_pair pair other) true old → (table || new) ≡ ((table || old) || (same_pair other pair || false))
pair_added table old new pair other e =
    added table old new (same_pair other pair) (e ∙ ap (λ same. cond same true old) (same_pair_swap pair other))
    ∙ ap (λ t. (table || old) || t) (sym (or_false (same_pair other pair)))

pub are_sorts_left : (left : Left) (declarations : List Declaration) (names : List (Bor (List ℕ))) → IsLeft left declarations →
    list_all (λ name. left_has_sort left name.now) names ≡ are_sorts declarations (map (λ name. name.now) names)
are_sorts_left left declarations [] is_left = refl
are_sorts_left left declarations (name ∷ names) is_left =
    ap (λ t. t && list_all (λ n. left_has_sort left n.now) names) (sym (is_left.sorts_are name.now))
    ∙ ap (λ t. is_sort declarations name.now && t) (are_sorts_left left declarations names is_left)
