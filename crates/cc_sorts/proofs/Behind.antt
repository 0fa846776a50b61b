-- The table behind a declaration without a fault is the table of the declarations with it.
use Rattle.std.proofs.Common.{◌≡◌, ◌∙◌, ℕ, ◌<◌, length, Bool, true, false, ◌||◌, List, [], ◌∷◌, ◌++◌, map, flat_map, reverse, Option, Some, None, slice_index_or, codes, decimal, is_none, ◌&&◌, refl, sym, ap, subst, append_assoc}
use Rattle.std.specs.Prelude.{if◌then◌else◌}
use Rattle.std.specs.List.{list_any}
use Rattle.std.proofs.lemmas.List.{append-nil, reverse-append}
use Rattle.std.proofs.lemmas.List.Folds.{list_any-append}
use Rattle.cc_defs.specs.Declarations.{Declaration, Sort, Link, Subsort, Object, Span, Number, Variable, Constant, Kinds, Declared, Named, Pair, Put, named_put, boolean, sort_named, sort_names, pair_declared, pairs, put_declared, puts, variable_declared, variables, constant_declared, constants, constant_names, is_below, firsts_behind}
use Rattle.cc_defs.specs.DeclarationFaults.{is_sort}
use Rattle.cc_defs.specs.Grammar.{same_text}
use Rattle.cc_sorts.specs.Dictionaries.{number_of, names_of}
use Rattle.cc_sorts.specs.SortViews.{name_at, with_sort}
use Rattle.cc_sorts.specs.Steps.{with_sorts, put_sort, new_sort, put_pair, new_pair, found_pair, put_object, new_put, new_object, found_object, put_variable, new_variable, found_variable, put_symbol, new_symbol, found_symbol, placed_in, behind, behind_all, IsClear, IsClearPair, IsClearName, IsClearConstant, AllClear}
use Rattle.cc_sorts.specs.Entered.{IsEntered}
use Rattle.cc_sorts.specs.Tables.{TableView, Numbered, symbol_names}
use Rattle.cc_sorts.proofs.Names.{is_among, any_front, any_map, or_false, or_right, same_self, not_there, is_there, firsts_end, flat_end}
use Rattle.cc_sorts.proofs.Grown.{Has, has_of, table_of, numbered_by, put_names, named_of, first_by, named_symbols, has_sort, has_pair, has_implied, has_again, has_object, has_variable, has_symbol}

-- ---- the lists of one declaration more

flat_same : {Y : Type 0} (f : Declaration → List Y) (left : List Declaration) (d : Declaration) → f d ≡ [] → flat_map f (left ++ d ∷ []) ≡ flat_map f left
flat_same f left d e = flat_end f left d ∙ ap (λ w. flat_map f left ++ w) e ∙ append-nil (flat_map f left)

pub names_same : (left : List Declaration) (d : Declaration) → sort_named d ≡ [] → sort_names (left ++ d ∷ []) ≡ sort_names left
names_same left d e = ap (λ (w : List (List ℕ)). firsts_behind [] (boolean ∷ w)) (flat_same sort_named left d e)

abbrev if_new : Bool → List ℕ → List (List ℕ)
if_new known name = if known then [] else name ∷ []

pub names_end : (left : List Declaration) (d : Declaration) (name : List ℕ) → sort_named d ≡ name ∷ [] → sort_names (left ++ d ∷ []) ≡ sort_names left ++ if_new (is_sort left name) name
names_end left d name e =
    ap (λ (w : List (List ℕ)). firsts_behind [] (boolean ∷ w)) (flat_end sort_named left d ∙ ap (λ (w : List (List ℕ)). flat_map sort_named left ++ w) e)
    ∙ firsts_end [] (boolean ∷ flat_map sort_named left) name

pub pairs_same : (left : List Declaration) (d : Declaration) → pair_declared d ≡ [] → pairs (left ++ d ∷ []) ≡ pairs left
pairs_same left d e = ap (λ (w : List Pair). reverse w) (flat_same pair_declared left d e)

pairs_end : (left : List Declaration) (upper lower : List ℕ) → pairs (left ++ Subsort upper lower ∷ []) ≡ (upper, lower) ∷ pairs left
pairs_end left upper lower =
    ap (λ (w : List Pair). reverse w) (flat_end pair_declared left (Subsort upper lower)) ∙ reverse-append (flat_map pair_declared left) ((upper, lower) ∷ [])

pub puts_same : (left : List Declaration) (d : Declaration) → put_declared d ≡ [] → puts (left ++ d ∷ []) ≡ puts left
puts_same left d e = ap (λ (w : List Put). named_put (codes "false") boolean ∷ named_put (codes "true") boolean ∷ w) (flat_same put_declared left d e)

puts_end : (left : List Declaration) (d : Declaration) (put : Put) → put_declared d ≡ put ∷ [] → puts (left ++ d ∷ []) ≡ puts left ++ put ∷ []
puts_end left d put e =
    ap (λ (w : List Put). named_put (codes "false") boolean ∷ named_put (codes "true") boolean ∷ w)
    (flat_end put_declared left d ∙ ap (λ (w : List Put). flat_map put_declared left ++ w) e)

-- ---- sorts that are known

pub known_link : (left : List Declaration) (name : List ℕ) → is_sort (left ++ Link name ∷ []) name ≡ true
known_link left name =
    ap (λ (w : List (List ℕ)). is_among w name) (names_end left (Link name) name refl) ∙ step (sort_names left) name (is_sort left name) refl
  where
    step : (names : List (List ℕ)) (name : List ℕ) (known : Bool) → is_among names name ≡ known → is_among (names ++ if_new known name) name ≡ true
    step names name true e = any_front (same_text name) names [] e
    step names name false e =
        list_any-append (same_text name) names (name ∷ []) ∙ or_right (is_among names name) (same_text name name || false) (ap (λ (b : Bool). b || false) (same_self name))

pub known_more : (left : List Declaration) (d : Declaration) (name : List ℕ) → is_sort left name ≡ true → is_sort (left ++ d ∷ []) name ≡ true
known_more left (Sort new) name e = ap (λ (w : List (List ℕ)). is_among w name) (names_end left (Sort new) new refl) ∙ any_front (same_text name) (sort_names left) (if_new (is_sort left new) new) e
known_more left (Link new) name e = ap (λ (w : List (List ℕ)). is_among w name) (names_end left (Link new) new refl) ∙ any_front (same_text name) (sort_names left) (if_new (is_sort left new) new) e
known_more left (Subsort upper lower) name e = ap (λ (w : List (List ℕ)). is_among w name) (names_same left (Subsort upper lower) refl) ∙ e
known_more left (Object new sort) name e = ap (λ (w : List (List ℕ)). is_among w name) (names_same left (Object new sort) refl) ∙ e
known_more left (Span low high sort) name e = ap (λ (w : List (List ℕ)). is_among w name) (names_same left (Span low high sort) refl) ∙ e
known_more left (Number value sort) name e = ap (λ (w : List (List ℕ)). is_among w name) (names_same left (Number value sort) refl) ∙ e
known_more left (Variable new sort) name e = ap (λ (w : List (List ℕ)). is_among w name) (names_same left (Variable new sort) refl) ∙ e
known_more left (Constant shape kind file line) name e = ap (λ (w : List (List ℕ)). is_among w name) (names_same left (Constant shape kind file line) refl) ∙ e
known_more left (Kinds shapes kind) name e = ap (λ (w : List (List ℕ)). is_among w name) (names_same left (Kinds shapes kind) refl) ∙ e

-- ---- each step

same_table : (table other : TableView) (left : List Declaration) → table ≡ other → IsEntered other left → IsEntered table left
same_table table other left e is = let P : TableView → Type 0 = λ t. IsEntered t left in subst P (sym e) is

unchanged : (table : TableView) (left : List Declaration) (d : Declaration) → sort_names (left ++ d ∷ []) ≡ sort_names left → pair_declared d ≡ [] → put_declared d ≡ [] → variable_declared d ≡ [] →
    constant_declared d ≡ [] → IsEntered table left → IsEntered table (left ++ d ∷ [])
unchanged table left d names p o v c is =
    table_of table (left ++ d ∷ []) (sort_names left) (pairs left) (puts left) (variables left) (constants left)
    names (pairs_same left d p) (puts_same left d o) (flat_same variable_declared left d v) (flat_same constant_declared left d c) (has_of table left is)

new_sort_is : (table : TableView) (left : List Declaration) (d : Declaration) (name : List ℕ) → sort_named d ≡ name ∷ [] → pair_declared d ≡ [] → put_declared d ≡ [] → variable_declared d ≡ [] →
    constant_declared d ≡ [] → is_sort left name ≡ false → IsEntered table left → IsEntered (put_sort table name) (left ++ d ∷ [])
new_sort_is table left d name s p o v c new is =
    let has = has_of table left is in
    let none : number_of table.sorts.names name ≡ None = ap (λ (w : List (List ℕ)). number_of w name) has.names_are ∙ not_there (sort_names left) name new in
    same_table (put_sort table name) (with_sorts table (with_sort table.sorts name)) (left ++ d ∷ []) (ap (λ (found : Option ℕ). new_sort table name found) none)
    (table_of (with_sorts table (with_sort table.sorts name)) (left ++ d ∷ []) (sort_names left ++ name ∷ []) (pairs left) (puts left) (variables left) (constants left)
    (names_end left d name s ∙ ap (λ (known : Bool). sort_names left ++ if_new known name) new)
    (pairs_same left d p) (puts_same left d o) (flat_same variable_declared left d v) (flat_same constant_declared left d c)
    (has_sort table (sort_names left) (pairs left) (puts left) (variables left) (constants left) name new has))

link_is : (table : TableView) (left : List Declaration) (name : List ℕ) (known : Bool) → is_sort left name ≡ known → IsEntered table left → IsEntered (put_sort table name) (left ++ Link name ∷ [])
link_is table left name false e is = new_sort_is table left (Link name) name refl refl refl refl refl e is
link_is table left name true e is =
    let has = has_of table left is in
    let there = is_there (sort_names left) name e in
    let found : number_of table.sorts.names name ≡ Some there.number = ap (λ (w : List (List ℕ)). number_of w name) has.names_are ∙ there.found in
    same_table (put_sort table name) table (left ++ Link name ∷ []) (ap (λ (f : Option ℕ). new_sort table name f) found)
    (unchanged table left (Link name)
    (names_end left (Link name) name refl ∙ ap (λ (k : Bool). sort_names left ++ if_new k name) e ∙ append-nil (sort_names left)) refl refl refl refl is)

new_pair_has : (table : TableView) (left : List Declaration) (above under : ℕ) (upper lower : List ℕ) → slice_index_or (sort_names left) above [] ≡ upper → slice_index_or (sort_names left) under [] ≡ lower →
    under < length (sort_names left) → is_among (sort_names left) upper ≡ true → is_among (sort_names left) lower ≡ true →
    Has table (sort_names left) (pairs left) (puts left) (variables left) (constants left) → (implied : Bool) → is_below (pairs left) lower upper ≡ implied →
    Has (new_pair table above under false implied) (sort_names left) ((upper, lower) ∷ pairs left) (puts left) (variables left) (constants left)
new_pair_has table left above under upper lower a u within p q has true e =
    has_implied table (sort_names left) (pairs left) (puts left) (variables left) (constants left) above under upper lower a u e p q has
new_pair_has table left above under upper lower a u within p q has false e =
    has_pair table (sort_names left) (pairs left) (puts left) (variables left) (constants left) above under upper lower a u within p q has

pair_is : (table : TableView) (left : List Declaration) (upper lower : List ℕ) → IsClearPair left upper lower → IsEntered table left → IsEntered (put_pair table upper lower) (left ++ Subsort upper lower ∷ [])
pair_is table left upper lower clear is =
    let d = Subsort upper lower in
    let has = has_of table left is in
    let u = is_there (sort_names left) upper clear.upper_known in
    let l = is_there (sort_names left) lower clear.lower_known in
    let found_u : number_of table.sorts.names upper ≡ Some u.number = ap (λ (w : List (List ℕ)). number_of w upper) has.names_are ∙ u.found in
    let found_l : number_of table.sorts.names lower ≡ Some l.number = ap (λ (w : List (List ℕ)). number_of w lower) has.names_are ∙ l.found in
    let name_u : name_at table.sorts u.number ≡ upper = ap (λ (w : List (List ℕ)). slice_index_or w u.number []) has.names_are ∙ u.named in
    let name_l : name_at table.sorts l.number ≡ lower = ap (λ (w : List (List ℕ)). slice_index_or w l.number []) has.names_are ∙ l.named in
    let apart : is_below table.sorts.pairs (name_at table.sorts u.number) (name_at table.sorts l.number) ≡ false =
    ap (λ (w : List Pair). is_below w (name_at table.sorts u.number) (name_at table.sorts l.number)) has.pairs_are
    ∙ ap (λ (w : List ℕ). is_below (pairs left) w (name_at table.sorts l.number)) name_u ∙ ap (λ (w : List ℕ). is_below (pairs left) upper w) name_l ∙ clear.apart in
    let under : is_below table.sorts.pairs (name_at table.sorts l.number) (name_at table.sorts u.number) ≡ is_below (pairs left) lower upper =
    ap (λ (w : List Pair). is_below w (name_at table.sorts l.number) (name_at table.sorts u.number)) has.pairs_are
    ∙ ap (λ (w : List ℕ). is_below (pairs left) w (name_at table.sorts u.number)) name_l ∙ ap (λ (w : List ℕ). is_below (pairs left) lower w) name_u in
    let grown : (new : TableView) → Has new (sort_names left) ((upper, lower) ∷ pairs left) (puts left) (variables left) (constants left) → IsEntered new (left ++ d ∷ []) =
    λ new is_new. table_of new (left ++ d ∷ []) (sort_names left) ((upper, lower) ∷ pairs left) (puts left) (variables left) (constants left)
    (names_same left d refl) (pairs_end left upper lower) (puts_same left d refl) (flat_same variable_declared left d refl) (flat_same constant_declared left d refl) is_new in
    same_table (put_pair table upper lower) (new_pair table u.number l.number false (is_below (pairs left) lower upper)) (left ++ d ∷ [])
    (ap (λ (f : Option ℕ). found_pair table f (number_of table.sorts.names lower)) found_u ∙ ap (λ (f : Option ℕ). found_pair table (Some u.number) f) found_l
    ∙ ap (λ (b : Bool). new_pair table u.number l.number b (is_below table.sorts.pairs (name_at table.sorts l.number) (name_at table.sorts u.number))) apart
    ∙ ap (λ (b : Bool). new_pair table u.number l.number false b) under)
    (grown (new_pair table u.number l.number false (is_below (pairs left) lower upper)) (new_pair_has table left u.number l.number upper lower u.named l.named l.within clear.upper_known clear.lower_known has (is_below (pairs left) lower upper) refl))

names_numbered : (names : List (List ℕ)) (os : List Named) → names_of (numbered_by names os) ≡ map (λ (o : Named). o.0) os
names_numbered names [] = refl
names_numbered names (o ∷ os) = ap (λ (w : List (List ℕ)). o.0 ∷ w) (names_numbered names os)

no_number : (names : List (List ℕ)) (os : List Named) (entries : List Numbered) (name : List ℕ) → entries ≡ numbered_by names os → list_any (λ (o : Named). same_text name o.0) os ≡ false →
    number_of (names_of entries) name ≡ None
no_number names os entries name e new =
    ap (λ (w : List Numbered). number_of (names_of w) name) e ∙ ap (λ (w : List (List ℕ)). number_of w name) (names_numbered names os)
    ∙ not_there (map (λ (o : Named). o.0) os) name (any_map (same_text name) (λ (o : Named). o.0) os ∙ new)

named_numbered : (names : List (List ℕ)) (os : List Put) → names_of (numbered_by names (named_of os)) ≡ put_names os
named_numbered names [] = refl
named_numbered names (o ∷ os) = ap (λ (w : List (List ℕ)). o.name ∷ w) (named_numbered names os)

put_is : (table : TableView) (left : List Declaration) (d : Declaration) (o : Put) → sort_named d ≡ [] → pair_declared d ≡ [] → put_declared d ≡ o ∷ [] → variable_declared d ≡ [] →
    constant_declared d ≡ [] → is_sort left o.sort ≡ true → IsEntered table left → IsEntered (put_object table o.name o.sort o.number) (left ++ d ∷ [])
put_is table left d o n p q v c known is = cases (is_among (put_names (first_by (puts left))) o.name) refl
  where
    has : Has table (sort_names left) (pairs left) (puts left) (variables left) (constants left)
    has = has_of table left is

    same_names : names_of table.objects ≡ put_names (first_by (puts left))
    same_names = ap (λ (w : List Numbered). names_of w) has.objects_are ∙ named_numbered (sort_names left) (first_by (puts left))

    grown : (new : TableView) → Has new (sort_names left) (pairs left) (puts left ++ o ∷ []) (variables left) (constants left) → IsEntered new (left ++ d ∷ [])
    grown new is_new =
        table_of new (left ++ d ∷ []) (sort_names left) (pairs left) (puts left ++ o ∷ []) (variables left) (constants left)
        (names_same left d n) (pairs_same left d p) (puts_end left d o q) (flat_same variable_declared left d v) (flat_same constant_declared left d c) is_new

    cases : (there : Bool) → is_among (put_names (first_by (puts left))) o.name ≡ there → IsEntered (put_object table o.name o.sort o.number) (left ++ d ∷ [])
    cases true e =
        let s = is_there (sort_names left) o.sort known in
        let k = is_there (put_names (first_by (puts left))) o.name e in
        let found : number_of table.sorts.names o.sort ≡ Some s.number = ap (λ (w : List (List ℕ)). number_of w o.sort) has.names_are ∙ s.found in
        let object : number_of (names_of table.objects) o.name ≡ Some k.number = ap (λ (w : List (List ℕ)). number_of w o.name) same_names ∙ k.found in
        same_table (put_object table o.name o.sort o.number) (new_put table k.number s.number o.number) (left ++ d ∷ [])
        (ap (λ (f : Option ℕ). found_object table o.name o.number f (number_of (names_of table.objects) o.name)) found ∙ ap (λ (f : Option ℕ). found_object table o.name o.number (Some s.number) f) object)
        (grown (new_put table k.number s.number o.number)
        (has_again table (sort_names left) (pairs left) (puts left) (variables left) (constants left) o s.number s.named s.is_number known has k.number e k.is_number))
    cases false e =
        let s = is_there (sort_names left) o.sort known in
        let found : number_of table.sorts.names o.sort ≡ Some s.number = ap (λ (w : List (List ℕ)). number_of w o.sort) has.names_are ∙ s.found in
        let object : number_of (names_of table.objects) o.name ≡ None = ap (λ (w : List (List ℕ)). number_of w o.name) same_names ∙ not_there (put_names (first_by (puts left))) o.name e in
        same_table (put_object table o.name o.sort o.number) (new_object table o.name s.number o.number) (left ++ d ∷ [])
        (ap (λ (f : Option ℕ). found_object table o.name o.number f (number_of (names_of table.objects) o.name)) found ∙ ap (λ (f : Option ℕ). found_object table o.name o.number (Some s.number) f) object)
        (grown (new_object table o.name s.number o.number)
        (has_object table (sort_names left) (pairs left) (puts left) (variables left) (constants left) o s.number s.named s.is_number known has e))

variable_is : (table : TableView) (left : List Declaration) (name sort : List ℕ) → IsClearName left name sort → IsEntered table left → IsEntered (put_variable table name sort) (left ++ Variable name sort ∷ [])
variable_is table left name sort clear is =
    let d = Variable name sort in
    let has = has_of table left is in
    let s = is_there (sort_names left) sort clear.sort_known in
    let free = or_false (list_any (λ (o : Put). is_none o.number && same_text name o.name) (puts left)) (list_any (λ (v : Named). same_text name v.0) (variables left) || list_any (same_text name) (constant_names left)) clear.is_new in
    let rest = or_false (list_any (λ (v : Named). same_text name v.0) (variables left)) (list_any (same_text name) (constant_names left)) free.1 in
    let found : number_of table.sorts.names sort ≡ Some s.number = ap (λ (w : List (List ℕ)). number_of w sort) has.names_are ∙ s.found in
    let none : number_of (names_of table.variables) name ≡ None = no_number (sort_names left) (variables left) table.variables name has.variables_are rest.0 in
    let new = new_variable table name s.number in
    same_table (put_variable table name sort) new (left ++ d ∷ [])
    (ap (λ (f : Option ℕ). found_variable table name f (number_of (names_of table.variables) name)) found ∙ ap (λ (f : Option ℕ). found_variable table name (Some s.number) f) none)
    (table_of new (left ++ d ∷ []) (sort_names left) (pairs left) (puts left) (variables left ++ (name, sort) ∷ []) (constants left)
    (names_same left d refl) (pairs_same left d refl) (puts_same left d refl) (flat_end variable_declared left d) (flat_same constant_declared left d refl)
    (has_variable table (sort_names left) (pairs left) (puts left) (variables left) (constants left) name sort s.number s.is_number clear.sort_known has))

constant_is : (table : TableView) (left : List Declaration) (c : Declared) → IsClearConstant left c.shape c.kind → IsEntered table left →
    IsEntered (put_symbol table c.shape c.kind c.file c.line) (left ++ Constant c.shape c.kind c.file c.line ∷ [])
constant_is table left c clear is =
    let d = Constant c.shape c.kind c.file c.line in
    let name = c.shape.name in
    let has = has_of table left is in
    let free = or_false (list_any (λ (o : Put). is_none o.number && same_text name o.name) (puts left)) (list_any (λ (v : Named). same_text name v.0) (variables left) || list_any (same_text name) (constant_names left)) clear.is_new in
    let rest = or_false (list_any (λ (v : Named). same_text name v.0) (variables left)) (list_any (same_text name) (constant_names left)) free.1 in
    let none : number_of (symbol_names table) name ≡ None =
    ap (λ (w : List (List ℕ)). number_of w name) (named_symbols table (sort_names left) (pairs left) (puts left) (variables left) (constants left) has) ∙ not_there (constant_names left) name rest.1 in
    let placed = placed_in table c.shape c.kind c.file c.line in
    let new = new_symbol table placed in
    same_table (put_symbol table c.shape c.kind c.file c.line) new (left ++ d ∷ []) (ap (λ (f : Option ℕ). found_symbol table placed f) none)
    (table_of new (left ++ d ∷ []) (sort_names left) (pairs left) (puts left) (variables left) (constants left ++ c ∷ [])
    (names_same left d refl) (pairs_same left d refl) (puts_same left d refl) (flat_same variable_declared left d refl) (flat_end constant_declared left d)
    (has_symbol table (sort_names left) (pairs left) (puts left) (variables left) (constants left) c clear.arguments_known clear.values_known clear.action_known has))

pub behind_is : (table : TableView) (left : List Declaration) (d : Declaration) → IsClear left d → IsEntered table left → IsEntered (behind table d) (left ++ d ∷ [])
behind_is table left (Sort name) clear is = new_sort_is table left (Sort name) name refl refl refl refl refl clear is
behind_is table left (Link name) clear is = link_is table left name (is_sort left name) refl is
behind_is table left (Subsort upper lower) clear is = pair_is table left upper lower clear is
behind_is table left (Object name sort) clear is = put_is table left (Object name sort) (named_put name sort) refl refl refl refl refl clear.sort_known is
behind_is table left (Span low high sort) clear is = unchanged table left (Span low high sort) (names_same left (Span low high sort) refl) refl refl refl refl is
behind_is table left (Number value sort) clear is =
    put_is table left (Number value sort) (record { name = decimal value; number = Some value; sort = sort }) refl refl refl refl refl clear is
behind_is table left (Variable name sort) clear is = variable_is table left name sort clear is
behind_is table left (Constant shape kind file line) clear is = constant_is table left (record { shape = shape; kind = kind; file = file; line = line }) clear is
behind_is table left (Kinds shapes kind) clear is = unchanged table left (Kinds shapes kind) (names_same left (Kinds shapes kind) refl) refl refl refl refl is

pub behind_all_is : (table : TableView) (left ds : List Declaration) → AllClear left ds → IsEntered table left → IsEntered (behind_all table ds) (left ++ ds)
behind_all_is table left [] clear is = let P : List Declaration → Type 0 = λ w. IsEntered table w in subst P (sym (append-nil left)) is
behind_all_is table left (d ∷ ds) clear is =
    let P : List Declaration → Type 0 = λ w. IsEntered (behind_all (behind table d) ds) w in
    subst P (append_assoc left (d ∷ []) ds) (behind_all_is (behind table d) (left ++ d ∷ []) ds clear.1 (behind_is table left d clear.0 is))

pub clear_front : (left front rest : List Declaration) → AllClear left (front ++ rest) → AllClear left front
clear_front left [] rest clear = tt
clear_front left (d ∷ front) rest clear = (clear.0, clear_front (left ++ d ∷ []) front rest clear.1)
