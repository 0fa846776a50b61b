-- A table behind one more declaration without a fault is the table of the declarations with it.
use Rattle.std.proofs.Common.{◌≡◌, ◌∙◌, ℕ, ◌+◌, ◌<◌, Bool, true, false, ◌&&◌, ◌||◌, List, [], ◌∷◌, ◌++◌, length, map, Option, Some, slice_index_or, unwrap_or, cond, refl, sym, ap, subst, arith}
use Rattle.std.specs.Prelude.{if◌then◌else◌, IsTrue}
use Rattle.std.specs.List.{AllByRecursion, list_all, position_from}
use Rattle.std.proofs.lemmas.Iterator.Adapters.{position_from-zero}
use Rattle.std.proofs.lemmas.List.{append-nil, map-append, length-map}
use Rattle.cc_defs.specs.Declarations.{Declaration, Declared, Named, Pair, Put, sort_names, pairs, puts, first_puts, first_puts_behind, object_of, variables, constants, constant_names, symbol_of, action_of, number_in, numbers_where, is_below, value_sort}
use Rattle.cc_defs.specs.Grammar.{same_text}
use Rattle.cc_defs.specs.Trees.{PlainShape, PlainKind}
use Rattle.cc_defs.specs.Trees as trees
use Rattle.cc_sorts.specs.declared.table.Placed.{Placed}
use Rattle.cc_sorts.specs.Numbers.{union}
use Rattle.cc_sorts.specs.SortViews.{name_at, members_at, with_sort, with_pair, with_implied, changed_above}
use Rattle.cc_sorts.specs.declared.table.PutAt.{PutAt}
use Rattle.cc_sorts.specs.Entered.{IsEntered}
use Rattle.cc_sorts.specs.Steps.{with_sorts, new_put, new_object, new_variable, new_symbol, placed_in, symbol_in, action_in}
use Rattle.cc_sorts.specs.Tables.{TableView, Numbered, has_action, placed_of, put_at, symbol_names}
use Rattle.cc_sorts.proofs.Names.{is_among, any_front, and_true, or_left, or_right, or_turn, same_self, number_front, number_end, AreAmong, below_other}
use Rattle.cc_sorts.proofs.Below.{implied_same}
use Rattle.cc_sorts.proofs.Wheres.{where_end, where_same, where_none, where_or, changed_map, at_map}

-- ---- a table by its names, pairs, puts, variables and constants

abbrev pub placed_by : List (List ℕ) → List (List ℕ) → Declared → Placed
placed_by names others c = record { symbol = symbol_in names others c.shape c.kind; file = c.file; line = c.line }

abbrev pub members_by : List Pair → List Put → List ℕ → List ℕ
members_by pairs puts sort = numbers_where (λ put. is_below pairs put.sort sort) 0 puts

abbrev pub numbered_by : List (List ℕ) → List Named → List Numbered
numbered_by names named = map (λ entry. (entry.0, number_in names entry.1)) named

abbrev pub put_names : List Put → List (List ℕ)
put_names puts = map (λ put. put.name) puts

abbrev pub named_of : List Put → List Named
named_of puts = map (λ put. (put.name, put.sort)) puts

abbrev pub first_by : List Put → List Put
first_by puts = first_puts_behind [] puts

-- a put by the names of sorts and of objects
abbrev pub put_by : List (List ℕ) → List (List ℕ) → Put → PutAt
put_by names owners put = record { object = number_in owners put.name; sort = number_in names put.sort; number = put.number }

abbrev pub ArePut : List (List ℕ) → List Put → Type 0
ArePut names puts = AllByRecursion (λ put. IsTrue (is_among names put.sort)) puts

abbrev pub AreSorted : List (List ℕ) → List Named → Type 0
AreSorted names named = AllByRecursion (λ entry. IsTrue (is_among names entry.1)) named

abbrev pub names_in : List Declared → List (List ℕ)
names_in constants = map (λ constant. constant.shape.name) constants

abbrev pub AreShaped : List (List ℕ) → List Declared → Type 0
AreShaped names constants = AllByRecursion (λ constant. IsTrue (list_all (is_among names) constant.shape.sorts)) constants

abbrev pub HaveValues : List (List ℕ) → List Declared → Type 0
HaveValues names constants = AllByRecursion (λ constant. IsTrue (is_among names (value_sort constant.kind))) constants

abbrev pub HaveActions : List (List ℕ) → List Declared → Type 0
HaveActions names constants = AllByRecursion (λ constant. IsTrue (has_action names constant.kind)) constants

pub record Has (table : TableView) (names : List (List ℕ)) (pairs : List Pair) (puts : List Put) (variables : List Named) (constants : List Declared) : Type 0 where
  pub names_are : table.sorts.names ≡ names
  pub pairs_are : table.sorts.pairs ≡ pairs
  pub members_are : table.sorts.members ≡ map (members_by pairs puts) names
  pub puts_are : table.puts ≡ map (put_by names (put_names (first_by puts))) puts
  pub objects_are : table.objects ≡ numbered_by names (named_of (first_by puts))
  pub numbers_are : table.numbers ≡ map (λ put. put.number) (first_by puts)
  pub variables_are : table.variables ≡ numbered_by names variables
  pub symbols_are : table.symbols ≡ map (placed_by names (names_in constants)) constants
  pub of_puts : ArePut names puts
  pub of_variables : AreSorted names variables
  pub of_arguments : AreShaped names constants
  pub of_values : HaveValues names constants
  pub of_actions : HaveActions (names_in constants) constants
  pub of_pairs : AreAmong names pairs

action_same : (left : List Declaration) (kind : PlainKind) → action_of left kind ≡ action_in (constant_names left) kind
action_same left (trees.Plain word sort) = refl
action_same left (trees.Attribute sort action) = refl

abbrev with_action : List Declaration → Declared → Option ℕ → Placed
with_action left c action = record {
  symbol = record {
    name = c.shape.name;
    sorts = map (number_in (sort_names left)) c.shape.sorts;
    kind = (symbol_of left c).kind;
    domain = number_in (sort_names left) (value_sort c.kind);
    attribute = action;
  };
  file = c.file;
  line = c.line;
}

pub placed_same : (left : List Declaration) (constants : List Declared) →
    placed_of left constants ≡ map (placed_by (sort_names left) (constant_names left)) constants
placed_same left [] = refl
placed_same left (c ∷ cs) =
    ap (λ (action : Option ℕ). with_action left c action ∷ placed_of left cs) (action_same left c.kind)
    ∙ ap (λ (w : List Placed). placed_by (sort_names left) (constant_names left) c ∷ w) (placed_same left cs)

-- the place of a name among those of puts
place_from : (name : List ℕ) (n : ℕ) (firsts : List Put) → position_from (λ put. same_text name put.name) n firsts ≡ position_from (same_text name) n (put_names firsts)
place_from name n [] = refl
place_from name n (put ∷ firsts) = ap (λ (w : Option ℕ). cond (same_text name put.name) (Some n) w) (place_from name (n + 1) firsts)

pub object_is_number : (firsts : List Put) (put : Put) → object_of firsts (Some put) ≡ number_in (put_names firsts) put.name
object_is_number firsts put =
    ap (λ (found : Option ℕ). unwrap_or found 0)
    (position_from-zero (λ (other : Put). same_text put.name other.name) firsts ∙ place_from put.name 0 firsts ∙ sym (position_from-zero (same_text put.name) (put_names firsts)))

abbrev put_as : Put → ℕ → ℕ → PutAt
put_as put object sort = record { object = object; sort = sort; number = put.number }

puts_same : (left : List Declaration) (os : List Put) → map (put_at left) os ≡ map (put_by (sort_names left) (put_names (first_puts left))) os
puts_same left [] = refl
puts_same left (o ∷ os) =
    ap (λ (n : ℕ). put_as o n (number_in (sort_names left) o.sort) ∷ map (put_at left) os) (object_is_number (first_puts left) o)
    ∙ ap (λ (w : List PutAt). put_by (sort_names left) (put_names (first_puts left)) o ∷ w) (puts_same left os)

pub has_of : (table : TableView) (left : List Declaration) → IsEntered table left → Has table (sort_names left) (pairs left) (puts left) (variables left) (constants left)
has_of table left is = record {
  names_are = is.names;
  pairs_are = is.pairs_are;
  members_are = is.members_are;
  puts_are = is.puts_are ∙ puts_same left (puts left);
  objects_are = is.objects_are;
  numbers_are = is.numbers_are;
  variables_are = is.variables_are;
  symbols_are = is.symbols_are ∙ placed_same left (constants left);
  of_puts = is.known.of_puts;
  of_variables = is.known.of_variables;
  of_arguments = is.known.of_arguments;
  of_values = is.known.of_values;
  of_actions = is.known.of_actions;
  of_pairs = is.known.of_pairs;
}

is_of : (table : TableView) (left : List Declaration) → Has table (sort_names left) (pairs left) (puts left) (variables left) (constants left) → IsEntered table left
is_of table left has = record {
  names = has.names_are;
  pairs_are = has.pairs_are;
  members_are = has.members_are;
  puts_are = has.puts_are ∙ sym (puts_same left (puts left));
  objects_are = has.objects_are;
  numbers_are = has.numbers_are;
  variables_are = has.variables_are;
  symbols_are = has.symbols_are ∙ sym (placed_same left (constants left));
  known = record {
    of_puts = has.of_puts;
    of_variables = has.of_variables;
    of_arguments = has.of_arguments;
    of_values = has.of_values;
    of_actions = has.of_actions;
    of_pairs = has.of_pairs;
  };
}

pub table_of : (table : TableView) (left : List Declaration) (names : List (List ℕ)) (ps : List Pair) (os : List Put) (vs : List Named) (cs : List Declared) →
    sort_names left ≡ names → pairs left ≡ ps → puts left ≡ os → variables left ≡ vs → constants left ≡ cs → Has table names ps os vs cs → IsEntered table left
table_of table left names ps os vs cs a b c d e has =
    let A : List (List ℕ) → Type 0 = λ w. Has table w ps os vs cs in
    let B : List Pair → Type 0 = λ w. Has table (sort_names left) w os vs cs in
    let C : List Put → Type 0 = λ w. Has table (sort_names left) (pairs left) w vs cs in
    let D : List Named → Type 0 = λ w. Has table (sort_names left) (pairs left) (puts left) w cs in
    let E : List Declared → Type 0 = λ w. Has table (sort_names left) (pairs left) (puts left) (variables left) w in
    is_of table left (subst E (sym e) (subst D (sym d) (subst C (sym c) (subst B (sym b) (subst A (sym a) has)))))

-- ---- the first puts

abbrev pub if_new_put : Bool → Put → List Put
if_new_put known put = if known then [] else put ∷ []

first_end : (seen : List (List ℕ)) (os : List Put) (o : Put) →
    first_puts_behind seen (os ++ o ∷ []) ≡ first_puts_behind seen os ++ if_new_put (is_among seen o.name || is_among (put_names (first_puts_behind seen os)) o.name) o
first_end seen [] o =
    elim (is_among seen o.name) as (λ known. (if known then [] else o ∷ []) ≡ if_new_put (known || false) o) [ true ↦ refl | false ↦ refl ]
first_end seen (x ∷ os) o = step (is_among seen x.name) (first_end seen os o) (first_end (x.name ∷ seen) os o)
  where
    step : (known : Bool) →
        first_puts_behind seen (os ++ o ∷ []) ≡ first_puts_behind seen os ++ if_new_put (is_among seen o.name || is_among (put_names (first_puts_behind seen os)) o.name) o →
        first_puts_behind (x.name ∷ seen) (os ++ o ∷ [])
        ≡ first_puts_behind (x.name ∷ seen) os ++ if_new_put (is_among (x.name ∷ seen) o.name || is_among (put_names (first_puts_behind (x.name ∷ seen) os)) o.name) o →
        (if known then first_puts_behind seen (os ++ o ∷ []) else x ∷ first_puts_behind (x.name ∷ seen) (os ++ o ∷ []))
        ≡ (if known then first_puts_behind seen os else x ∷ first_puts_behind (x.name ∷ seen) os)
        ++ if_new_put (is_among seen o.name || is_among (put_names (if known then first_puts_behind seen os else x ∷ first_puts_behind (x.name ∷ seen) os)) o.name) o
    step true p q = p
    step false p q =
        ap (λ (w : List Put). x ∷ w)
        (q ∙ ap (λ (known : Bool). first_puts_behind (x.name ∷ seen) os ++ if_new_put known o)
        (or_turn (same_text o.name x.name) (is_among seen o.name) (is_among (put_names (first_puts_behind (x.name ∷ seen) os)) o.name)))

pub first_more : (os : List Put) (o : Put) → first_by (os ++ o ∷ []) ≡ first_by os ++ if_new_put (is_among (put_names (first_by os)) o.name) o
first_more os o = first_end [] os o

-- the names of puts are among those of the first ones
abbrev IsOwned : List (List ℕ) → List (List ℕ) → Put → Type 0
IsOwned names seen put = (is_among names put.name || is_among seen put.name) ≡ true

turned : (a s b : Bool) → (a || (s || b)) ≡ true → ((s || a) || b) ≡ true
turned true true b e = refl
turned true false b e = refl
turned false true b e = refl
turned false false b e = e

turn_owned : (name : List ℕ) (seen names : List (List ℕ)) (xs : List Put) → AllByRecursion (IsOwned names (name ∷ seen)) xs → AllByRecursion (IsOwned (name ∷ names) seen) xs
turn_owned name seen names [] all = tt
turn_owned name seen names (x ∷ xs) all = (turned (is_among names x.name) (same_text x.name name) (is_among seen x.name) all.0, turn_owned name seen names xs all.1)

owned_step : (seen : List (List ℕ)) (o : Put) (os : List Put) (known : Bool) → is_among seen o.name ≡ known → AllByRecursion (IsOwned (put_names (first_puts_behind seen os)) seen) os →
    AllByRecursion (IsOwned (put_names (first_puts_behind (o.name ∷ seen) os)) (o.name ∷ seen)) os →
    AllByRecursion (IsOwned (put_names (if known then first_puts_behind seen os else o ∷ first_puts_behind (o.name ∷ seen) os)) seen) (o ∷ os)
owned_step seen o os true e p q = (or_right (is_among (put_names (first_puts_behind seen os)) o.name) (is_among seen o.name) e, p)
owned_step seen o os false e p q = (
  or_left (same_text o.name o.name || is_among (put_names (first_puts_behind (o.name ∷ seen) os)) o.name) (is_among seen o.name)
      (or_left (same_text o.name o.name) (is_among (put_names (first_puts_behind (o.name ∷ seen) os)) o.name) (same_self o.name)),
  turn_owned o.name seen (put_names (first_puts_behind (o.name ∷ seen) os)) os q,
)

owned_behind : (seen : List (List ℕ)) (os : List Put) → AllByRecursion (IsOwned (put_names (first_puts_behind seen os)) seen) os
owned_behind seen [] = tt
owned_behind seen (o ∷ os) = owned_step seen o os (is_among seen o.name) refl (owned_behind seen os) (owned_behind (o.name ∷ seen) os)

abbrev pub AreOwned : List (List ℕ) → List Put → Type 0
AreOwned owners os = AllByRecursion (λ o. is_among owners o.name ≡ true) os

or_nothing : (b : Bool) → (b || false) ≡ true → b ≡ true
or_nothing true e = refl
or_nothing false e = absurd cc

plain_owned : (names : List (List ℕ)) (xs : List Put) → AllByRecursion (IsOwned names []) xs → AreOwned names xs
plain_owned names [] all = tt
plain_owned names (x ∷ xs) all = (or_nothing (is_among names x.name) all.0, plain_owned names xs all.1)

pub owned_by : (os : List Put) → AreOwned (put_names (first_by os)) os
owned_by os = plain_owned (put_names (first_by os)) os (owned_behind [] os)

first_put : (P : Put → Type 0) (seen : List (List ℕ)) (os : List Put) → AllByRecursion P os → AllByRecursion P (first_puts_behind seen os)
first_put P seen [] all = tt
first_put P seen (o ∷ os) all =
    elim (is_among seen o.name) as (λ known. AllByRecursion P (if known then first_puts_behind seen os else o ∷ first_puts_behind (o.name ∷ seen) os)) [
      | true ↦ first_put P seen os all.1
      | false ↦ (all.0, first_put P (o.name ∷ seen) os all.1)
    ]

sorted_named : (names : List (List ℕ)) (os : List Put) → ArePut names os → AreSorted names (named_of os)
sorted_named names [] all = tt
sorted_named names (o ∷ os) all = (all.0, sorted_named names os all.1)

sorted_firsts : (names : List (List ℕ)) (os : List Put) → ArePut names os → AreSorted names (named_of (first_by os))
sorted_firsts names os all = sorted_named names (first_by os) (first_put (λ (o : Put). IsTrue (is_among names o.sort)) [] os all)

-- ---- what is known stays known, and numbers stay

module _ {X : Type 0} (P Q : X → Type 0) where
  all_more : (xs : List X) → ((x : X) → P x → Q x) → AllByRecursion P xs → AllByRecursion Q xs
  all_more [] f all = tt
  all_more (x ∷ xs) f all = (f x all.0, all_more xs f all.1)

  all_end : (xs : List X) (x : X) → ((x : X) → P x → Q x) → AllByRecursion P xs → Q x → AllByRecursion Q (xs ++ x ∷ [])
  all_end [] x f all here = (here, tt)
  all_end (y ∷ ys) x f all here = (f y all.0, all_end ys x f all.1 here)

among_more : (names more : List (List ℕ)) (name : List ℕ) → IsTrue (is_among names name) → IsTrue (is_among (names ++ more) name)
among_more names more name e = any_front (same_text name) names more e

and_both : (a b : Bool) → a ≡ true → b ≡ true → a && b ≡ true
and_both true b e f = f
and_both false b e f = absurd cc

all_among_more : (names more sorts : List (List ℕ)) → IsTrue (list_all (is_among names) sorts) → IsTrue (list_all (is_among (names ++ more)) sorts)
all_among_more names more [] e = refl
all_among_more names more (sort ∷ sorts) e =
    let parts = and_true (is_among names sort) (list_all (is_among names) sorts) e in
    and_both (is_among (names ++ more) sort) (list_all (is_among (names ++ more)) sorts) (among_more names more sort parts.0) (all_among_more names more sorts parts.1)

action_more : (names more : List (List ℕ)) (kind : PlainKind) → IsTrue (has_action names kind) → IsTrue (has_action (names ++ more) kind)
action_more names more (trees.Plain word sort) e = refl
action_more names more (trees.Attribute sort action) e = among_more names more action.name e

pairs_more : (names more : List (List ℕ)) (ps : List Pair) → AreAmong names ps → AreAmong (names ++ more) ps
pairs_more names more [] all = tt
pairs_more names more (pair ∷ ps) all =
    let parts = and_true (is_among names pair.0) (is_among names pair.1) all.0 in
    (and_both (is_among (names ++ more) pair.0) (is_among (names ++ more) pair.1) (among_more names more pair.0 parts.0) (among_more names more pair.1 parts.1), pairs_more names more ps all.1)

sorted_more : (names more : List (List ℕ)) (os : List Named) → AreSorted names os → AreSorted (names ++ more) os
sorted_more names more os all =
    let P : Named → Type 0 = λ o. IsTrue (is_among names o.1) in let Q : Named → Type 0 = λ o. IsTrue (is_among (names ++ more) o.1) in
    all_more P Q os (λ o e. among_more names more o.1 e) all

shaped_more : (names more : List (List ℕ)) (cs : List Declared) → AreShaped names cs → AreShaped (names ++ more) cs
shaped_more names more cs all =
    let P : Declared → Type 0 = λ c. IsTrue (list_all (is_among names) c.shape.sorts) in let Q : Declared → Type 0 = λ c. IsTrue (list_all (is_among (names ++ more)) c.shape.sorts) in
    all_more P Q cs (λ c e. all_among_more names more c.shape.sorts e) all

values_more : (names more : List (List ℕ)) (cs : List Declared) → HaveValues names cs → HaveValues (names ++ more) cs
values_more names more cs all =
    let P : Declared → Type 0 = λ c. IsTrue (is_among names (value_sort c.kind)) in let Q : Declared → Type 0 = λ c. IsTrue (is_among (names ++ more) (value_sort c.kind)) in
    all_more P Q cs (λ c e. among_more names more (value_sort c.kind) e) all

numbered_more : (names more : List (List ℕ)) (os : List Named) → AreSorted names os → numbered_by names os ≡ numbered_by (names ++ more) os
numbered_more names more [] all = refl
numbered_more names more (o ∷ os) all =
    ap (λ (n : ℕ). (o.0, n) ∷ numbered_by names os) (sym (number_front names more o.1 all.0))
    ∙ ap (λ (w : List Numbered). (o.0, number_in (names ++ more) o.1) ∷ w) (numbered_more names more os all.1)

puts_more : (names more : List (List ℕ)) (os : List Put) → ArePut names os → ArePut (names ++ more) os
puts_more names more os all =
    let P : Put → Type 0 = λ o. IsTrue (is_among names o.sort) in let Q : Put → Type 0 = λ o. IsTrue (is_among (names ++ more) o.sort) in
    all_more P Q os (λ o e. among_more names more o.sort e) all

put_more : (names more owners : List (List ℕ)) (os : List Put) → ArePut names os → map (put_by names owners) os ≡ map (put_by (names ++ more) owners) os
put_more names more owners [] all = refl
put_more names more owners (o ∷ os) all =
    ap (λ (n : ℕ). put_as o (number_in owners o.name) n ∷ map (put_by names owners) os) (sym (number_front names more o.sort all.0))
    ∙ ap (λ (w : List PutAt). put_by (names ++ more) owners o ∷ w) (put_more names more owners os all.1)

owner_more : (names owners more : List (List ℕ)) (os : List Put) → AreOwned owners os → map (put_by names owners) os ≡ map (put_by names (owners ++ more)) os
owner_more names owners more [] all = refl
owner_more names owners more (o ∷ os) all =
    ap (λ (n : ℕ). put_as o n (number_in names o.sort) ∷ map (put_by names owners) os) (sym (number_front owners more o.name all.0))
    ∙ ap (λ (w : List PutAt). put_by names (owners ++ more) o ∷ w) (owner_more names owners more os all.1)

numbers_more : (names more sorts : List (List ℕ)) → IsTrue (list_all (is_among names) sorts) → map (number_in names) sorts ≡ map (number_in (names ++ more)) sorts
numbers_more names more [] e = refl
numbers_more names more (sort ∷ sorts) e =
    let parts = and_true (is_among names sort) (list_all (is_among names) sorts) e in
    ap (λ (n : ℕ). n ∷ map (number_in names) sorts) (sym (number_front names more sort parts.0))
    ∙ ap (λ (w : List ℕ). number_in (names ++ more) sort ∷ w) (numbers_more names more sorts parts.1)

action_stays : (names more : List (List ℕ)) (kind : PlainKind) → IsTrue (has_action names kind) → action_in names kind ≡ action_in (names ++ more) kind
action_stays names more (trees.Plain word sort) e = refl
action_stays names more (trees.Attribute sort action) e = ap (λ (n : ℕ). Some n) (sym (number_front names more action.name e))

abbrev placed_as : Declared → List ℕ → ℕ → Option ℕ → Placed
placed_as c sorts domain action = record {
  symbol = record { name = c.shape.name; sorts = sorts; kind = (symbol_in [] [] c.shape c.kind).kind; domain = domain; attribute = action };
  file = c.file;
  line = c.line;
}

placed_more_sorts : (names more others : List (List ℕ)) (cs : List Declared) → AreShaped names cs → HaveValues names cs →
    map (placed_by names others) cs ≡ map (placed_by (names ++ more) others) cs
placed_more_sorts names more others [] a v = refl
placed_more_sorts names more others (c ∷ cs) a v =
    ap (λ (w : List ℕ). placed_as c w (number_in names (value_sort c.kind)) (action_in others c.kind) ∷ map (placed_by names others) cs) (numbers_more names more c.shape.sorts a.0)
    ∙ ap (λ (n : ℕ). placed_as c (map (number_in (names ++ more)) c.shape.sorts) n (action_in others c.kind) ∷ map (placed_by names others) cs) (sym (number_front names more (value_sort c.kind) v.0))
    ∙ ap (λ (w : List Placed). placed_by (names ++ more) others c ∷ w) (placed_more_sorts names more others cs a.1 v.1)

placed_more_names : (names others more : List (List ℕ)) (cs : List Declared) → HaveActions others cs →
    map (placed_by names others) cs ≡ map (placed_by names (others ++ more)) cs
placed_more_names names others more [] a = refl
placed_more_names names others more (c ∷ cs) a =
    ap (λ (action : Option ℕ). placed_as c (map (number_in names) c.shape.sorts) (number_in names (value_sort c.kind)) action ∷ map (placed_by names others) cs) (action_stays others more c.kind a.0)
    ∙ ap (λ (w : List Placed). placed_by names (others ++ more) c ∷ w) (placed_more_names names others more cs a.1)

-- ---- each step

none_below : (names : List (List ℕ)) (ps : List Pair) (os : List Put) (name : List ℕ) → is_among names name ≡ false → AreAmong names ps → ArePut names os → members_by ps os name ≡ []
none_below names ps os name new known all =
    let P : Put → Type 0 = λ o. IsTrue (is_among names o.sort) in let Q : Put → Type 0 = λ o. is_below ps o.sort name ≡ false in
    where_none (λ (o : Put). is_below ps o.sort name) 0 os (all_more P Q os (λ o e. below_other names ps o.sort name new e known) all)

pub has_sort : (table : TableView) (names : List (List ℕ)) (ps : List Pair) (os : List Put) (vs : List Named) (cs : List Declared) (name : List ℕ) → is_among names name ≡ false →
    Has table names ps os vs cs → Has (with_sorts table (with_sort table.sorts name)) (names ++ name ∷ []) ps os vs cs
has_sort table names ps os vs cs name new has = record {
  names_are = ap (λ (w : List (List ℕ)). w ++ name ∷ []) has.names_are;
  pairs_are = has.pairs_are;
  members_are =
      ap (λ (w : List (List ℕ)). w ++ [] ∷ []) has.members_are
      ∙ ap (λ (w : List ℕ). map (members_by ps os) names ++ w ∷ []) (sym (none_below names ps os name new has.of_pairs has.of_puts))
      ∙ sym (map-append (members_by ps os) names (name ∷ []));
  puts_are = has.puts_are ∙ put_more names (name ∷ []) (put_names (first_by os)) os has.of_puts;
  objects_are = has.objects_are ∙ numbered_more names (name ∷ []) (named_of (first_by os)) (sorted_firsts names os has.of_puts);
  numbers_are = has.numbers_are;
  variables_are = has.variables_are ∙ numbered_more names (name ∷ []) vs has.of_variables;
  symbols_are = has.symbols_are ∙ placed_more_sorts names (name ∷ []) (names_in cs) cs has.of_arguments has.of_values;
  of_puts = puts_more names (name ∷ []) os has.of_puts;
  of_variables = sorted_more names (name ∷ []) vs has.of_variables;
  of_arguments = shaped_more names (name ∷ []) cs has.of_arguments;
  of_values = values_more names (name ∷ []) cs has.of_values;
  of_actions = has.of_actions;
  of_pairs = pairs_more names (name ∷ []) ps has.of_pairs;
}

or_none : (a b : Bool) → a ≡ (a || (b && false))
or_none true b = refl
or_none false true = refl
or_none false false = refl

or_all : (a b : Bool) → (a || b) ≡ (a || (b && true))
or_all true b = refl
or_all false true = refl
or_all false false = refl

members_pair : (ps : List Pair) (os : List Put) (upper lower sort : List ℕ) →
    (if is_below ps upper sort then union (members_by ps os sort) (members_by ps os lower) else members_by ps os sort) ≡ members_by ((upper, lower) ∷ ps) os sort
members_pair ps os upper lower sort = step ps os lower sort (is_below ps upper sort)
  where
    step : (ps : List Pair) (os : List Put) (lower sort : List ℕ) (above : Bool) →
        (if above then union (members_by ps os sort) (members_by ps os lower) else members_by ps os sort)
        ≡ numbers_where (λ (o : Put). is_below ps o.sort sort || (is_below ps o.sort lower && above)) 0 os
    step ps os lower sort true =
        where_or (λ (o : Put). is_below ps o.sort sort) (λ (o : Put). is_below ps o.sort lower) 0 os
        ∙ where_same (λ (o : Put). is_below ps o.sort sort || is_below ps o.sort lower) (λ (o : Put). is_below ps o.sort sort || (is_below ps o.sort lower && true)) 0 os
        (λ o. or_all (is_below ps o.sort sort) (is_below ps o.sort lower))
    step ps os lower sort false =
        where_same (λ (o : Put). is_below ps o.sort sort) (λ (o : Put). is_below ps o.sort sort || (is_below ps o.sort lower && false)) 0 os
        (λ o. or_none (is_below ps o.sort sort) (is_below ps o.sort lower))

abbrev changed_by : List Pair → List Put → List ℕ → List ℕ → List (List ℕ) → List (List ℕ) → List (List ℕ)
changed_by ps os sort list names lists = changed_above ps sort (λ (w : List ℕ). union w list) names lists

pub has_pair : (table : TableView) (names : List (List ℕ)) (ps : List Pair) (os : List Put) (vs : List Named) (cs : List Declared) (upper lower : ℕ) (above under : List ℕ) →
    slice_index_or names upper [] ≡ above → slice_index_or names lower [] ≡ under → lower < length names → is_among names above ≡ true → is_among names under ≡ true →
    Has table names ps os vs cs → Has (with_sorts table (with_pair table.sorts upper lower)) names ((above, under) ∷ ps) os vs cs
has_pair table names ps os vs cs upper lower above under a u within p q has =
    let upper_name : name_at table.sorts upper ≡ above = ap (λ (w : List (List ℕ)). slice_index_or w upper []) has.names_are ∙ a in
    let lower_name : name_at table.sorts lower ≡ under = ap (λ (w : List (List ℕ)). slice_index_or w lower []) has.names_are ∙ u in
    let lower_list : members_at table.sorts lower ≡ members_by ps os under =
    ap (λ (w : List (List ℕ)). slice_index_or w lower []) has.members_are ∙ at_map (members_by ps os) names lower within ∙ ap (members_by ps os) u in
    record {
      names_are = has.names_are;
      pairs_are = ap (λ (w : List ℕ). (w, name_at table.sorts lower) ∷ table.sorts.pairs) upper_name ∙ ap (λ (w : List ℕ). (above, w) ∷ table.sorts.pairs) lower_name ∙ ap (λ (w : List Pair). (above, under) ∷ w) has.pairs_are;
      members_are =
          ap (λ (w : List Pair). changed_by w os (name_at table.sorts upper) (members_at table.sorts lower) table.sorts.names table.sorts.members) has.pairs_are
          ∙ ap (λ (w : List ℕ). changed_by ps os w (members_at table.sorts lower) table.sorts.names table.sorts.members) upper_name
          ∙ ap (λ (w : List ℕ). changed_by ps os above w table.sorts.names table.sorts.members) lower_list
          ∙ ap (λ (w : List (List ℕ)). changed_by ps os above (members_by ps os under) w table.sorts.members) has.names_are
          ∙ ap (λ (w : List (List ℕ)). changed_by ps os above (members_by ps os under) names w) has.members_are
          ∙ changed_map ps above (λ (w : List ℕ). union w (members_by ps os under)) (members_by ps os) (members_by ((above, under) ∷ ps) os) names (members_pair ps os above under);
      puts_are = has.puts_are;
      objects_are = has.objects_are;
      numbers_are = has.numbers_are;
      variables_are = has.variables_are;
      symbols_are = has.symbols_are;
      of_puts = has.of_puts;
      of_variables = has.of_variables;
      of_arguments = has.of_arguments;
      of_values = has.of_values;
      of_actions = has.of_actions;
      of_pairs = (and_both (is_among names above) (is_among names under) p q, has.of_pairs);
    }

map_same : (f g : List ℕ → List ℕ) (names : List (List ℕ)) → ((name : List ℕ) → f name ≡ g name) → map f names ≡ map g names
map_same f g [] e = refl
map_same f g (name ∷ names) e = ap (λ (w : List ℕ). w ∷ map f names) (e name) ∙ ap (λ (w : List (List ℕ)). g name ∷ w) (map_same f g names e)

pub has_implied : (table : TableView) (names : List (List ℕ)) (ps : List Pair) (os : List Put) (vs : List Named) (cs : List Declared) (upper lower : ℕ) (above under : List ℕ) →
    slice_index_or names upper [] ≡ above → slice_index_or names lower [] ≡ under → is_below ps under above ≡ true → is_among names above ≡ true → is_among names under ≡ true →
    Has table names ps os vs cs → Has (with_sorts table (with_implied table.sorts upper lower)) names ((above, under) ∷ ps) os vs cs
has_implied table names ps os vs cs upper lower above under a u implied p q has =
    let upper_name : name_at table.sorts upper ≡ above = ap (λ (w : List (List ℕ)). slice_index_or w upper []) has.names_are ∙ a in
    let lower_name : name_at table.sorts lower ≡ under = ap (λ (w : List (List ℕ)). slice_index_or w lower []) has.names_are ∙ u in
    record {
      names_are = has.names_are;
      pairs_are = ap (λ (w : List ℕ). (w, name_at table.sorts lower) ∷ table.sorts.pairs) upper_name ∙ ap (λ (w : List ℕ). (above, w) ∷ table.sorts.pairs) lower_name ∙ ap (λ (w : List Pair). (above, under) ∷ w) has.pairs_are;
      members_are = has.members_are ∙ map_same (members_by ps os) (members_by ((above, under) ∷ ps) os) names
          (λ sort. where_same (λ (o : Put). is_below ps o.sort sort) (λ (o : Put). is_below ((above, under) ∷ ps) o.sort sort) 0 os (λ o. sym (implied_same ps above under o.sort sort implied)));
      puts_are = has.puts_are;
      objects_are = has.objects_are;
      numbers_are = has.numbers_are;
      variables_are = has.variables_are;
      symbols_are = has.symbols_are;
      of_puts = has.of_puts;
      of_variables = has.of_variables;
      of_arguments = has.of_arguments;
      of_values = has.of_values;
      of_actions = has.of_actions;
      of_pairs = (and_both (is_among names above) (is_among names under) p q, has.of_pairs);
    }

members_put : (ps : List Pair) (os : List Put) (o : Put) (number : ℕ) (sort : List ℕ) → number ≡ length os →
    (if is_below ps o.sort sort then members_by ps os sort ++ number ∷ [] else members_by ps os sort) ≡ members_by ps (os ++ o ∷ []) sort
members_put ps os o number sort e =
    step (members_by ps os sort) number (is_below ps o.sort sort)
    ∙ ap (λ (n : ℕ). members_by ps os sort ++ (if is_below ps o.sort sort then n ∷ [] else [])) from_zero
    ∙ sym (where_end (λ (x : Put). is_below ps x.sort sort) 0 os o)
  where
    from_zero : number ≡ 0 + length os
    from_zero = omega (arith, e)

    step : (list : List ℕ) (number : ℕ) (here : Bool) → (if here then list ++ number ∷ [] else list) ≡ list ++ (if here then number ∷ [] else [])
    step list number true = refl
    step list number false = sym (append-nil list)

abbrev appended_by : List Pair → List ℕ → ℕ → List (List ℕ) → List (List ℕ) → List (List ℕ)
appended_by ps sort number names lists = changed_above ps sort (λ (w : List ℕ). w ++ number ∷ []) names lists

-- the table with a put, by what its objects become
module _ (table : TableView) (names : List (List ℕ)) (ps : List Pair) (os : List Put) (vs : List Named) (cs : List Declared) (o : Put) (sort : ℕ)
    (a : slice_index_or names sort [] ≡ o.sort) (b : number_in names o.sort ≡ sort) (p : is_among names o.sort ≡ true) (has : Has table names ps os vs cs) where
  abbrev named_before : List Put
  named_before = first_by os

  count_puts : length table.puts ≡ length os
  count_puts = ap (λ (w : List PutAt). length w) has.puts_are ∙ length-map os (put_by names (put_names (first_by os)))

  count_objects : length table.objects ≡ length (first_by os)
  count_objects =
      ap (λ (w : List Numbered). length w) has.objects_are ∙ length-map (named_of (first_by os)) (λ (o : Named). (o.0, number_in names o.1))
      ∙ length-map (first_by os) (λ (put : Put). (put.name, put.sort))

  sort_name : name_at table.sorts sort ≡ o.sort
  sort_name = ap (λ (w : List (List ℕ)). slice_index_or w sort []) has.names_are ∙ a

  members_more : appended_by table.sorts.pairs (name_at table.sorts sort) (length table.puts) table.sorts.names table.sorts.members ≡ map (members_by ps (os ++ o ∷ [])) names
  members_more =
      ap (λ (w : List Pair). appended_by w (name_at table.sorts sort) (length table.puts) table.sorts.names table.sorts.members) has.pairs_are
      ∙ ap (λ (w : List ℕ). appended_by ps w (length table.puts) table.sorts.names table.sorts.members) sort_name
      ∙ ap (λ (w : List (List ℕ)). appended_by ps o.sort (length table.puts) w table.sorts.members) has.names_are
      ∙ ap (λ (w : List (List ℕ)). appended_by ps o.sort (length table.puts) names w) has.members_are
      ∙ changed_map ps o.sort (λ (w : List ℕ). w ++ length table.puts ∷ []) (members_by ps os) (members_by ps (os ++ o ∷ [])) names
      (λ (n : List ℕ). members_put ps os o (length table.puts) n count_puts)

  -- the puts with another, of this object
  puts_end : (owners : List (List ℕ)) (object : ℕ) → map (put_by names (put_names (first_by os))) os ≡ map (put_by names owners) os → number_in owners o.name ≡ object →
      table.puts ++ record { object = object; sort = sort; number = o.number } ∷ [] ≡ map (put_by names owners) (os ++ o ∷ [])
  puts_end owners object same is =
      ap (λ (w : List PutAt). w ++ put_as o object sort ∷ []) (has.puts_are ∙ same)
      ∙ ap (λ (n : ℕ). map (put_by names owners) os ++ put_as o n sort ∷ []) (sym is)
      ∙ ap (λ (n : ℕ). map (put_by names owners) os ++ put_as o (number_in owners o.name) n ∷ []) (sym b)
      ∙ sym (map-append (put_by names owners) os (o ∷ []))

  sorted_end : ArePut names (os ++ o ∷ [])
  sorted_end =
      let Q : Put → Type 0 = λ o. IsTrue (is_among names o.sort) in
      all_end Q Q os o (λ o e. e) has.of_puts p

  -- of an object that is there
  pub has_again : (object : ℕ) → is_among (put_names (first_by os)) o.name ≡ true → number_in (put_names (first_by os)) o.name ≡ object →
      Has (new_put table object sort o.number) names ps (os ++ o ∷ []) vs cs
  has_again object known is =
      let same : first_by (os ++ o ∷ []) ≡ first_by os = first_more os o ∙ ap (λ (k : Bool). first_by os ++ if_new_put k o) known ∙ append-nil (first_by os) in
      record {
        names_are = has.names_are;
        pairs_are = has.pairs_are;
        members_are = members_more;
        puts_are = puts_end (put_names (first_by os)) object refl is ∙ ap (λ (w : List Put). map (put_by names (put_names w)) (os ++ o ∷ [])) (sym same);
        objects_are = has.objects_are ∙ ap (λ (w : List Put). numbered_by names (named_of w)) (sym same);
        numbers_are = has.numbers_are ∙ ap (λ (w : List Put). map (λ (put : Put). put.number) w) (sym same);
        variables_are = has.variables_are;
        symbols_are = has.symbols_are;
        of_puts = sorted_end;
        of_variables = has.of_variables;
        of_arguments = has.of_arguments;
        of_values = has.of_values;
        of_actions = has.of_actions;
        of_pairs = has.of_pairs;
      }

  -- of a new one
  pub has_object : is_among (put_names (first_by os)) o.name ≡ false → Has (new_object table o.name sort o.number) names ps (os ++ o ∷ []) vs cs
  has_object new =
      let same : first_by (os ++ o ∷ []) ≡ first_by os ++ o ∷ [] = first_more os o ∙ ap (λ (k : Bool). first_by os ++ if_new_put k o) new in
      let grown : put_names (first_by os ++ o ∷ []) ≡ put_names (first_by os) ++ o.name ∷ [] = map-append (λ (put : Put). put.name) (first_by os) (o ∷ []) in
      let last : number_in (put_names (first_by os) ++ o.name ∷ []) o.name ≡ length table.objects =
      number_end (put_names (first_by os)) o.name new ∙ length-map (first_by os) (λ (put : Put). put.name) ∙ sym count_objects in
      record {
        names_are = has.names_are;
        pairs_are = has.pairs_are;
        members_are = members_more;
        puts_are =
            puts_end (put_names (first_by os) ++ o.name ∷ []) (length table.objects) (owner_more names (put_names (first_by os)) (o.name ∷ []) os (owned_by os)) last
            ∙ ap (λ (w : List (List ℕ)). map (put_by names w) (os ++ o ∷ [])) (sym grown)
            ∙ ap (λ (w : List Put). map (put_by names (put_names w)) (os ++ o ∷ [])) (sym same);
        objects_are =
            ap (λ (w : List Numbered). w ++ (o.name, sort) ∷ []) has.objects_are
            ∙ ap (λ (n : ℕ). numbered_by names (named_of (first_by os)) ++ (o.name, n) ∷ []) (sym b)
            ∙ sym (map-append (λ (n : Named). (n.0, number_in names n.1)) (named_of (first_by os)) ((o.name, o.sort) ∷ []))
            ∙ ap (λ (w : List Named). numbered_by names w) (sym (map-append (λ (put : Put). (put.name, put.sort)) (first_by os) (o ∷ [])))
            ∙ ap (λ (w : List Put). numbered_by names (named_of w)) (sym same);
        numbers_are =
            ap (λ (w : List (Option ℕ)). w ++ o.number ∷ []) has.numbers_are
            ∙ sym (map-append (λ (put : Put). put.number) (first_by os) (o ∷ []))
            ∙ ap (λ (w : List Put). map (λ (put : Put). put.number) w) (sym same);
        variables_are = has.variables_are;
        symbols_are = has.symbols_are;
        of_puts = sorted_end;
        of_variables = has.of_variables;
        of_arguments = has.of_arguments;
        of_values = has.of_values;
        of_actions = has.of_actions;
        of_pairs = has.of_pairs;
      }

pub has_variable : (table : TableView) (names : List (List ℕ)) (ps : List Pair) (os : List Put) (vs : List Named) (cs : List Declared) (name sort : List ℕ) (number : ℕ) →
    number_in names sort ≡ number → is_among names sort ≡ true →
    Has table names ps os vs cs → Has (new_variable table name number) names ps os (vs ++ (name, sort) ∷ []) cs
has_variable table names ps os vs cs name sort number b p has =
    let Q : Named → Type 0 = λ o. IsTrue (is_among names o.1) in
    record {
      names_are = has.names_are;
      pairs_are = has.pairs_are;
      members_are = has.members_are;
      puts_are = has.puts_are;
      objects_are = has.objects_are;
      numbers_are = has.numbers_are;
      variables_are =
          ap (λ (w : List Numbered). w ++ (name, number) ∷ []) has.variables_are
          ∙ ap (λ (n : ℕ). numbered_by names vs ++ (name, n) ∷ []) (sym b)
          ∙ sym (map-append (λ (o : Named). (o.0, number_in names o.1)) vs ((name, sort) ∷ []));
      symbols_are = has.symbols_are;
      of_puts = has.of_puts;
      of_variables = all_end Q Q vs (name, sort) (λ o e. e) has.of_variables p;
      of_arguments = has.of_arguments;
      of_values = has.of_values;
      of_actions = has.of_actions;
      of_pairs = has.of_pairs;
    }

symbols_named : (names others : List (List ℕ)) (cs : List Declared) → map (λ (p : Placed). p.symbol.name) (map (placed_by names others) cs) ≡ names_in cs
symbols_named names others [] = refl
symbols_named names others (c ∷ cs) = ap (λ (w : List (List ℕ)). c.shape.name ∷ w) (symbols_named names others cs)

pub named_symbols : (table : TableView) (names : List (List ℕ)) (ps : List Pair) (os : List Put) (vs : List Named) (cs : List Declared) → Has table names ps os vs cs → symbol_names table ≡ names_in cs
named_symbols table names ps os vs cs has = ap (λ (w : List Placed). map (λ (p : Placed). p.symbol.name) w) has.symbols_are ∙ symbols_named names (names_in cs) cs

pub has_symbol : (table : TableView) (names : List (List ℕ)) (ps : List Pair) (os : List Put) (vs : List Named) (cs : List Declared) (c : Declared) →
    IsTrue (list_all (is_among names) c.shape.sorts) → IsTrue (is_among names (value_sort c.kind)) → IsTrue (has_action (names_in cs) c.kind) →
    Has table names ps os vs cs → Has (new_symbol table (placed_in table c.shape c.kind c.file c.line)) names ps os vs (cs ++ c ∷ [])
has_symbol table names ps os vs cs c p q r has =
    let more = c.shape.name ∷ [] in
    let grown : names_in (cs ++ c ∷ []) ≡ names_in cs ++ more = map-append (λ (d : Declared). d.shape.name) cs (c ∷ []) in
    let placed : placed_in table c.shape c.kind c.file c.line ≡ placed_by names (names_in cs ++ more) c =
    ap (λ (w : List (List ℕ)). placed_by w (symbol_names table) c) has.names_are
    ∙ ap (λ (w : List (List ℕ)). placed_by names w c) (named_symbols table names ps os vs cs has)
    ∙ ap (λ (action : Option ℕ). placed_as c (map (number_in names) c.shape.sorts) (number_in names (value_sort c.kind)) action) (action_stays (names_in cs) more c.kind r) in
    let A : Declared → Type 0 = λ d. IsTrue (list_all (is_among names) d.shape.sorts) in
    let B : Declared → Type 0 = λ d. IsTrue (is_among names (value_sort d.kind)) in
    let D : Declared → Type 0 = λ d. IsTrue (has_action (names_in cs) d.kind) in
    let E : Declared → Type 0 = λ d. IsTrue (has_action (names_in cs ++ more) d.kind) in
    let F : List (List ℕ) → Type 0 = λ w. HaveActions w (cs ++ c ∷ []) in
    record {
      names_are = has.names_are;
      pairs_are = has.pairs_are;
      members_are = has.members_are;
      puts_are = has.puts_are;
      objects_are = has.objects_are;
      numbers_are = has.numbers_are;
      variables_are = has.variables_are;
      symbols_are =
          ap (λ (w : List Placed). w ++ placed_in table c.shape c.kind c.file c.line ∷ []) (has.symbols_are ∙ placed_more_names names (names_in cs) more cs has.of_actions)
          ∙ ap (λ (w : Placed). map (placed_by names (names_in cs ++ more)) cs ++ w ∷ []) placed
          ∙ sym (map-append (placed_by names (names_in cs ++ more)) cs (c ∷ []))
          ∙ ap (λ (w : List (List ℕ)). map (placed_by names w) (cs ++ c ∷ [])) (sym grown);
      of_puts = has.of_puts;
      of_variables = has.of_variables;
      of_arguments = all_end A A cs c (λ d e. e) has.of_arguments p;
      of_values = all_end B B cs c (λ d e. e) has.of_values q;
      of_actions = subst F (sym grown) (all_end D E cs c (λ d e. action_more (names_in cs) more d.kind e) has.of_actions (action_more (names_in cs) more c.kind r));
      of_pairs = has.of_pairs;
    }
