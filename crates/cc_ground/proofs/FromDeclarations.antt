-- What declarations make of a universe: its parts, and that the values of its constants and the numbers of its objects differ.
use Rattle.std.proofs.Common.{◌≡◌, ◌∙◌, ℕ, zero, suc, ◌+◌, ◌<◌, ◌≤◌, Bool, true, false, not, ◌&&◌, ◌||◌, cond, codes, decimal, filter, List, [], ◌∷◌, ◌++◌, length, map, flat_map, get_or, position, slice_get, unwrap_or, Option, Some, None, is_some, refl, sym, ap, subst, arith}
use Rattle.std.specs.Option.{option_map}
use Rattle.std.specs.Prelude.{if◌then◌else◌, ◌==◌, nat_eq, IsTrue, IsFalse}
use Rattle.std.specs.Cmp.Lexicographic.{same_text as texts_same}
use Rattle.std.specs.List.{AllByRecursion, IsDistinct, list_any, position_from}
use Rattle.std.proofs.lemmas.Bool.{eq-eqb, ne_eqb}
use Rattle.std.proofs.lemmas.Iterator.Adapters.{position_from-zero}
use Rattle.std.proofs.lemmas.List.{get_or-map, length-map}
use Rattle.std.proofs.lemmas.List.Quantifiers.{position-Some}
use Rattle.std.proofs.lemmas.Option.{same_Some, slice_get-map}
use Rattle.cc_defs.specs.declared.law.BaseLaw.{BaseLaw as BaseLawTree}
use Rattle.cc_defs.specs.declared.signature.Const.{Const}
use Rattle.cc_defs.specs.declared.signature.Kind.{Kind}
use Rattle.cc_defs.specs.declared.signature.Symbol.{Symbol}
use Rattle.cc_defs.specs.Conditions.{HasKindOf, HaveTheirKinds, HaveTheirValues}
use Rattle.cc_defs.specs.DeclarationFaults.{is_sort}
use Rattle.cc_defs.specs.Grammar.{same_text}
use Rattle.cc_defs.specs.Declarations.{Declaration, Declared, Pair, Put, action_of, boolean, number_in, sort_names, members, numbers, numbers_where, is_below, pairs, objects, object_at, object_of, placed, put_declared, puts, first_puts, first_puts_behind, firsts, symbols, symbol_of, constants, kind_of_constant, is_action, domain_of, value_sort, instances, ground_of, ground_from, ground_fluents, ground_actions}
use Rattle.cc_defs.specs.Resolved.{BaseLaw, plain_base_law}
use Rattle.cc_defs.specs.Signatures.{Signature, none_value}
use Rattle.cc_defs.specs.Trees.{PlainKind}
use Rattle.cc_defs.specs.Trees as trees
use Rattle.cc_sorts.specs.declared.table.Placed.{Placed}
use Rattle.cc_sorts.specs.Tables.{AreKnown, TableView, IsTable, IsSignatureOf, placed_of}
use Rattle.cc_ground.specs.declared.maker.Maker.{Maker}
use Rattle.cc_defs.specs.Declarations as declared
use Rattle.cc_defs.specs.Universe.{Universe, AreOwnNumbers, HaveOwnValues, constants_in, objects_of, universe, values_of, values_of_symbol, with_none}
use Rattle.cc_ground.specs.Views.{universe_in, universe_of}

-- ---- the universe of a table and a signature

symbols_placed : (declarations : List Declaration) (found : List Declared) →
    map (λ placed. placed.symbol) (placed_of declarations found) ≡ map (symbol_of declarations) found
symbols_placed declarations [] = refl
symbols_placed declarations (constant ∷ others) = ap (λ (w : List Symbol). symbol_of declarations constant ∷ w) (symbols_placed declarations others)

abbrev made : List (List ℕ) → List (Option ℕ) → List Symbol → Signature → Universe
made sorts numbers symbols signature = record { sorts = sorts; numbers = numbers; symbols = symbols; fluents = signature.fluents; actions = signature.actions }

abbrev symbols_in : List Placed → List Symbol
symbols_in placed = map (λ p. p.symbol) placed

pub universe_is : (table : TableView) (declarations : List Declaration) (signature : Signature) → IsTable table declarations → IsSignatureOf declarations signature →
    universe_of table signature ≡ universe declarations
universe_is table declarations signature is of =
    ap (λ (w : List (List ℕ)). made w table.numbers (symbols_in table.symbols) signature) is.members_are
    ∙ ap (λ (w : List (Option ℕ)). made (universe declarations).sorts w (symbols_in table.symbols) signature) is.numbers_are
    ∙ ap (λ (w : List Symbol). made (universe declarations).sorts (numbers declarations) w signature)
    (ap symbols_in is.symbols_are ∙ symbols_placed declarations (constants declarations))
    ∙ ap (λ (w : Signature). made (universe declarations).sorts (numbers declarations) (symbols declarations) w) of.1

-- what is said of base laws over the table is said of them over the declarations
pub of_declarations : {Y : Type 0} (f : Universe → List BaseLaw → Y) (table : TableView) (declarations : List Declaration) (signature : Signature) (laws same : List BaseLawTree) →
    IsTable table declarations → IsSignatureOf declarations signature → laws ≡ same →
    f (universe_of table signature) (map plain_base_law laws) ≡ f (universe declarations) (map plain_base_law same)
of_declarations f table declarations signature laws same is of e =
    ap (λ (u : Universe). f u (map plain_base_law laws)) (universe_is table declarations signature is of)
    ∙ ap (λ (l : List BaseLawTree). f (universe declarations) (map plain_base_law l)) e

-- ---- numbers, each at its first place, differ

kept : (P : ℕ → Type 0) (test : ℕ → Bool) (xs : List ℕ) → AllByRecursion P xs → AllByRecursion P (filter test xs)
kept P test [] all = tt
kept P test (x ∷ xs) all = here (test x) (kept P test xs all.1)
  where
    here : (b : Bool) → AllByRecursion P (filter test xs) → AllByRecursion P (if b then x ∷ filter test xs else filter test xs)
    here true rest = (all.0, rest)
    here false rest = rest

others_differ : (x : ℕ) (ys : List ℕ) → AllByRecursion (λ y. nat_eq x y ≡ false) (filter (λ other. not (other == x)) ys)
others_differ x [] = tt
others_differ x (y ∷ ys) = here (y == x) refl (others_differ x ys)
  where
    here : (b : Bool) → (y == x) ≡ b → AllByRecursion (λ z. nat_eq x z ≡ false) (filter (λ other. not (other == x)) ys) →
        AllByRecursion (λ z. nat_eq x z ≡ false) (if not b then y ∷ filter (λ other. not (other == x)) ys else filter (λ other. not (other == x)) ys)
    here true e rest = rest
    here false e rest = (ne_eqb x y (λ same. (let is = eq-eqb y x (sym same) in absurd cc)), rest)

kept_step : (b : Bool) (x : ℕ) (ys : List ℕ) → AllByRecursion (λ y. nat_eq x y ≡ false) ys → IsDistinct nat_eq ys → IsDistinct nat_eq (if b then x ∷ ys else ys)
unfolding IsDistinct
kept_step true x ys all distinct = (all, distinct)
kept_step false x ys all distinct = distinct

kept_distinct : (test : ℕ → Bool) (xs : List ℕ) → IsDistinct nat_eq xs → IsDistinct nat_eq (filter test xs)
unfolding IsDistinct
kept_distinct test [] distinct = tt
kept_distinct test (x ∷ xs) distinct = kept_step (test x) x (filter test xs) (kept (λ y. nat_eq x y ≡ false) test xs distinct.0) (kept_distinct test xs distinct.1)

firsts_distinct : (xs : List ℕ) → IsDistinct nat_eq (firsts xs)
unfolding IsDistinct
firsts_distinct [] = tt
firsts_distinct (x ∷ xs) = (others_differ x (firsts xs), kept_distinct (λ other. not (other == x)) (firsts xs) (firsts_distinct xs))

all_firsts : (P : ℕ → Type 0) (xs : List ℕ) → AllByRecursion P xs → AllByRecursion P (firsts xs)
all_firsts P [] all = tt
all_firsts P (x ∷ xs) all = (all.0, kept P (λ other. not (other == x)) (firsts xs) (all_firsts P xs all.1))

-- ---- what all domains have, all ground constants have

module _ (P : List ℕ → Type 0) (declarations : List Declaration) (each : (kind : PlainKind) → P (domain_of declarations kind)) where
  append_all : (xs ys : List Const) → AllByRecursion (λ (c : Const). P c.domain) xs → AllByRecursion (λ (c : Const). P c.domain) ys → AllByRecursion (λ (c : Const). P c.domain) (xs ++ ys)
  append_all [] ys a b = b
  append_all (x ∷ xs) ys a b = (a.0, append_all xs ys a.1 b)

  instances_all : (number : ℕ) (constant : Declared) (rows : List (List ℕ)) → AllByRecursion (λ (c : Const). P c.domain) (map (λ args. record {
    symbol = number;
    args = args;
    kind = kind_of_constant constant.kind;
    domain = domain_of declarations constant.kind;
  }) rows)
  instances_all number constant [] = tt
  instances_all number constant (row ∷ rows) = (each constant.kind, instances_all number constant rows)

  from_all : (passes : Kind → Bool) (number : ℕ) (found : List Declared) → AllByRecursion (λ (c : Const). P c.domain) (ground_from declarations passes number found)
  from_all passes number [] = tt
  from_all passes number (constant ∷ others) =
      append_all (if passes (kind_of_constant constant.kind) then ground_of declarations number constant else []) (ground_from declarations passes (number + 1) others)
      (elim (passes (kind_of_constant constant.kind)) as (λ here. AllByRecursion (λ (c : Const). P c.domain) (if here then ground_of declarations number constant else [])) [
        | true ↦ instances_all number constant (instances declarations constant.shape.sorts)
        | false ↦ tt
      ])
      (from_all passes (number + 1) others)

  pub constants_all : AllByRecursion (λ (c : Const). P c.domain) (constants_in (universe declarations))
  constants_all =
      append_all (ground_fluents declarations) (ground_actions declarations) (from_all (λ kind. not (is_action kind)) 0 (constants declarations)) (from_all is_action 0 (constants declarations))

-- ---- a maker that has the table and the signature

pub maker_universe : (maker : Maker) (table : TableView) (signature : Signature) → maker.table.now ≡ table → maker.sig.now ≡ signature → universe_in maker ≡ universe_of table signature
maker_universe maker table signature t s = ap (λ (w : TableView). universe_of w maker.sig.now) t ∙ ap (universe_of table) s

-- ---- the values of a constant differ

abbrev no_put : Put
no_put = record { name = []; number = None; sort = [] }

module _ (declarations : List Declaration) (few : length (objects declarations) ≤ none_value) where
  few_puts : length (first_puts declarations) ≤ none_value
  few_puts =
      let same : length (objects declarations) ≡ length (first_puts declarations) = length-map (first_puts declarations) (λ (put : Put). (put.name, put.sort)) in
      subst (λ (n : ℕ). n ≤ none_value) same few

  place_below : (test : Put → Bool) (found : Option ℕ) → position test (first_puts declarations) ≡ found → unwrap_or found 0 < none_value
  place_below test None e = omega arith
  place_below test (Some i) e = let within = (position-Some test (first_puts declarations) i no_put e).0 in let all = few_puts in omega arith

  object_below : (put : Option Put) → object_of (first_puts declarations) put < none_value
  object_below (Some put) = place_below (λ other. same_text put.name other.name) (position (λ other. same_text put.name other.name) (first_puts declarations)) refl
  object_below None = omega arith

  objects_below : (places : List ℕ) → AllByRecursion (λ object. nat_eq none_value object ≡ false) (map (object_at declarations) places)
  objects_below [] = tt
  objects_below (place ∷ places) =
      let below = object_below (slice_get (puts declarations) place) in
      (ne_eqb none_value (object_at declarations place) (λ same. omega arith), objects_below places)

  with_none_distinct : (sort : List ℕ) → IsDistinct nat_eq (none_value ∷ members declarations sort)
  unfolding IsDistinct
  with_none_distinct sort =
      let objects_put = map (object_at declarations) (placed declarations sort) in
      (all_firsts (λ object. nat_eq none_value object ≡ false) objects_put (objects_below (placed declarations sort)), firsts_distinct objects_put)

  domain_distinct : (kind : PlainKind) → IsDistinct nat_eq (domain_of declarations kind)
  domain_distinct (trees.Plain word sort) = firsts_distinct (map (object_at declarations) (placed declarations (value_sort (trees.Plain word sort))))
  domain_distinct (trees.Attribute sort action) = with_none_distinct sort

-- ---- the numbers of objects differ

same_self : (text : List ℕ) → same_text text text ≡ true
same_self [] = refl
same_self (x ∷ xs) = rw (eq-eqb x x refl, same_self xs) refl

-- a number is put by its digits
abbrev HasDigits : Put → Type 0
HasDigits put = (number : ℕ) → put.number ≡ Some number → put.name ≡ decimal number

digits_declared : (declaration : Declaration) → AllByRecursion HasDigits (put_declared declaration)
digits_declared (declared.Sort name) = tt
digits_declared (declared.Link name) = tt
digits_declared (declared.Subsort upper lower) = tt
digits_declared (declared.Object name sort) = ((λ number e. absurd cc), tt)
digits_declared (declared.Span low high sort) = tt
digits_declared (declared.Number value sort) = ((λ number e. ap decimal (same_Some value number e)), tt)
digits_declared (declared.Variable name sort) = tt
digits_declared (declared.Constant shape kind file line) = tt
digits_declared (declared.Kinds shapes kind) = tt

module _ (P : Put → Type 0) where
  puts_append : (xs ys : List Put) → AllByRecursion P xs → AllByRecursion P ys → AllByRecursion P (xs ++ ys)
  puts_append [] ys p q = q
  puts_append (x ∷ xs) ys p q = (p.0, puts_append xs ys p.1 q)

  first_kept : (seen : List (List ℕ)) (all : List Put) → AllByRecursion P all → AllByRecursion P (first_puts_behind seen all)
  first_kept seen [] p = tt
  first_kept seen (put ∷ others) p = here (list_any (same_text put.name) seen) (first_kept seen others p.1) (first_kept (put.name ∷ seen) others p.1)
    where
      here : (known : Bool) → AllByRecursion P (first_puts_behind seen others) → AllByRecursion P (first_puts_behind (put.name ∷ seen) others) →
          AllByRecursion P (if known then first_puts_behind seen others else put ∷ first_puts_behind (put.name ∷ seen) others)
      here true old new = old
      here false old new = (p.0, new)

digits_put : (declarations : List Declaration) → AllByRecursion HasDigits (flat_map put_declared declarations)
digits_put [] = tt
digits_put (declaration ∷ declarations) = puts_append HasDigits (put_declared declaration) (flat_map put_declared declarations) (digits_declared declaration) (digits_put declarations)

all_digits : (declarations : List Declaration) → AllByRecursion HasDigits (first_puts declarations)
all_digits declarations = first_kept HasDigits [] (puts declarations) ((λ number e. absurd cc), ((λ number e. absurd cc), digits_put declarations))

-- what is new is none of those seen
abbrev IsNew : List (List ℕ) → Put → Type 0
IsNew seen put = list_any (same_text put.name) seen ≡ false

neither : (a b : Bool) → (a || b) ≡ false → (a ≡ false) × (b ≡ false)
neither true b e = absurd cc
neither false b e = (refl, e)

all_older : (name : List ℕ) (seen : List (List ℕ)) (all : List Put) → AllByRecursion (IsNew (name ∷ seen)) all → AllByRecursion (IsNew seen) all
all_older name seen [] p = tt
all_older name seen (put ∷ all) p = ((neither (same_text put.name name) (list_any (same_text put.name) seen) p.0).1, all_older name seen all p.1)

abbrev IsApart : List ℕ → Put → Type 0
IsApart name put = same_text put.name name ≡ false

all_apart : (name : List ℕ) (seen : List (List ℕ)) (all : List Put) → AllByRecursion (IsNew (name ∷ seen)) all → AllByRecursion (IsApart name) all
all_apart name seen [] p = tt
all_apart name seen (put ∷ all) p = ((neither (same_text put.name name) (list_any (same_text put.name) seen) p.0).0, all_apart name seen all p.1)

first_new : (seen : List (List ℕ)) (all : List Put) → AllByRecursion (IsNew seen) (first_puts_behind seen all)
first_new seen [] = tt
first_new seen (put ∷ others) = here (list_any (same_text put.name) seen) refl (first_new seen others) (first_new (put.name ∷ seen) others)
  where
    here : (known : Bool) → list_any (same_text put.name) seen ≡ known → AllByRecursion (IsNew seen) (first_puts_behind seen others) →
        AllByRecursion (IsNew (put.name ∷ seen)) (first_puts_behind (put.name ∷ seen) others) →
        AllByRecursion (IsNew seen) (if known then first_puts_behind seen others else put ∷ first_puts_behind (put.name ∷ seen) others)
    here true e old new = old
    here false e old new = (e, all_older put.name seen (first_puts_behind (put.name ∷ seen) others) new)

abbrev AreApart : List Put → Type 0
AreApart [] = Unit {0}
AreApart (put ∷ others) = AllByRecursion (IsApart put.name) others × AreApart others

first_apart : (seen : List (List ℕ)) (all : List Put) → AreApart (first_puts_behind seen all)
first_apart seen [] = tt
first_apart seen (put ∷ others) = here (list_any (same_text put.name) seen) (first_apart seen others) (first_apart (put.name ∷ seen) others)
  where
    here : (known : Bool) → AreApart (first_puts_behind seen others) → AreApart (first_puts_behind (put.name ∷ seen) others) →
        AreApart (if known then first_puts_behind seen others else put ∷ first_puts_behind (put.name ∷ seen) others)
    here true old new = old
    here false old new = (all_apart put.name seen (first_puts_behind (put.name ∷ seen) others) (first_new (put.name ∷ seen) others), new)

abbrev numbers_of : List Put → List (Option ℕ)
numbers_of all = map (λ put. put.number) all

-- what is apart from the digits of a number is not this number
not_again : (number : ℕ) (name : List ℕ) (all : List Put) → name ≡ decimal number → AllByRecursion (IsApart name) all → AllByRecursion HasDigits all → (i : ℕ) →
    slice_get (numbers_of all) i ≡ Some (Some number) → ⊥
not_again number name [] is apart digits i e = absurd cc
not_again number name (put ∷ all) is apart digits zero e =
    let same = digits.0 number (same_Some put.number (Some number) e) in
    let equal : same_text put.name name ≡ true = ap (λ (w : List ℕ). same_text w name) (same ∙ sym is) ∙ same_self name in
    let other = apart.0 in
    absurd cc
not_again number name (put ∷ all) is apart digits (suc i) e = not_again number name all is apart.1 digits.1 i e

own_in : (all : List Put) → AreApart all → AllByRecursion HasDigits all → AreOwnNumbers (numbers_of all)
own_in [] apart digits i j number e f = absurd cc
own_in (put ∷ all) apart digits zero zero number e f = refl
own_in (put ∷ all) apart digits zero (suc j) number e f = absurd (not_again number put.name all (digits.0 number (same_Some put.number (Some number) e)) apart.0 digits.1 j f)
own_in (put ∷ all) apart digits (suc i) zero number e f = absurd (not_again number put.name all (digits.0 number (same_Some put.number (Some number) f)) apart.0 digits.1 i e)
own_in (put ∷ all) apart digits (suc i) (suc j) number e f = ap suc (own_in all apart.1 digits.1 i j number e f)

pub distinct : (declarations : List Declaration) → length (objects declarations) ≤ none_value → HaveOwnValues (universe declarations)
distinct declarations few = record {
  values = constants_all (IsDistinct nat_eq) declarations (domain_distinct declarations few);
  numbers = own_in (first_puts declarations) (first_apart [] (puts declarations)) (all_digits declarations);
  few = subst (λ (n : ℕ). n ≤ none_value) (sym (length-map (first_puts declarations) (λ (put : Put). put.number))) (few_puts declarations few);
}

-- ---- each ground constant is one of a declared constant, whose number it has

module _ (declarations : List Declaration) (P : Const → Type 0) (passes : Kind → Bool) (all : List Declared) where
  abbrev constant_of : ℕ → Declared → List ℕ → Const
  constant_of number constant args = record {
    symbol = number;
    args = args;
    kind = kind_of_constant constant.kind;
    domain = domain_of declarations constant.kind;
  }

  abbrev Each : Type 0
  Each = (number : ℕ) (constant : Declared) → slice_get all number ≡ Some constant → passes (kind_of_constant constant.kind) ≡ true → (args : List ℕ) → P (constant_of number constant args)

  of_rows : (number : ℕ) (constant : Declared) (rows : List (List ℕ)) → ((args : List ℕ) → P (constant_of number constant args)) → AllByRecursion P (map (constant_of number constant) rows)
  of_rows number constant [] each = tt
  of_rows number constant (row ∷ rows) each = (each row, of_rows number constant rows each)

  both_all : (xs ys : List Const) → AllByRecursion P xs → AllByRecursion P ys → AllByRecursion P (xs ++ ys)
  both_all [] ys p q = q
  both_all (x ∷ xs) ys p q = (p.0, both_all xs ys p.1 q)

  of_constant : Each → (number : ℕ) (constant : Declared) → slice_get all number ≡ Some constant → (here : Bool) → passes (kind_of_constant constant.kind) ≡ here →
      AllByRecursion P (if here then ground_of declarations number constant else [])
  of_constant each number constant at true e = of_rows number constant (instances declarations constant.shape.sorts) (each number constant at e)
  of_constant each number constant at false e = tt

  -- of those from a number on
  from_each : Each → (number : ℕ) (found : List Declared) → ((i : ℕ) (constant : Declared) → slice_get found i ≡ Some constant → slice_get all (number + i) ≡ Some constant) →
      AllByRecursion P (ground_from declarations passes number found)
  from_each each number [] at = tt
  from_each each number (constant ∷ others) at =
      let here : slice_get all number ≡ Some constant = (let zeroth : number + 0 ≡ number = omega arith in subst (λ (k : ℕ). slice_get all k ≡ Some constant) zeroth (at 0 constant refl)) in
      both_all (if passes (kind_of_constant constant.kind) then ground_of declarations number constant else []) (ground_from declarations passes (number + 1) others)
      (of_constant each number constant here (passes (kind_of_constant constant.kind)) refl)
      (from_each each (number + 1) others (λ i c e. let next : number + suc i ≡ number + 1 + i = omega arith in subst (λ (k : ℕ). slice_get all k ≡ Some c) next (at (suc i) c e)))

  pub all_each : Each → AllByRecursion P (ground_from declarations passes 0 all)
  all_each each = from_each each 0 all (λ i constant e. let zeroth : i ≡ 0 + i = omega arith in subst (λ (k : ℕ). slice_get all k ≡ Some constant) zeroth e)

-- ---- kinds

module _ (declarations : List Declaration) where
  abbrev is_fluent : Kind → Bool
  is_fluent kind = not (is_action kind)

  not_true : (b : Bool) → not b ≡ true → b ≡ false
  not_true true e = absurd cc
  not_true false e = refl

  symbol_at : (number : ℕ) (constant : Declared) → slice_get (constants declarations) number ≡ Some constant → slice_get (symbols declarations) number ≡ Some (symbol_of declarations constant)
  symbol_at number constant e = slice_get-map (symbol_of declarations) (constants declarations) number ∙ ap (option_map (symbol_of declarations)) e

  -- what holds of each constant, fluent or action
  both_kinds : (P : Const → Type 0) → ((number : ℕ) (constant : Declared) → slice_get (constants declarations) number ≡ Some constant → (args : List ℕ) → P (record {
    symbol = number;
    args = args;
    kind = kind_of_constant constant.kind;
    domain = domain_of declarations constant.kind;
  })) → AllByRecursion P (constants_in (universe declarations))
  both_kinds P each =
      both_all declarations P is_action (constants declarations) (ground_fluents declarations) (ground_actions declarations)
      (all_each declarations P is_fluent (constants declarations) (λ number constant e passes. each number constant e))
      (all_each declarations P is_action (constants declarations) (λ number constant e passes. each number constant e))

  pub kinds_are : HaveTheirKinds (universe declarations)
  kinds_are = record {
    fluents = all_each declarations (λ (c : Const). IsFalse (is_action c.kind)) is_fluent (constants declarations) (λ number constant e passes args. not_true (is_action (kind_of_constant constant.kind)) passes);
    actions = all_each declarations (λ (c : Const). IsTrue (is_action c.kind)) is_action (constants declarations) (λ number constant e passes args. passes);
    symbols = both_kinds (HasKindOf (symbols declarations)) (λ number constant e args. (symbol_of declarations constant, symbol_at number constant e, refl));
  }

-- ---- values

any_from : {X : Type 0} → (test : X → Bool) (n : ℕ) (xs : List X) → list_any test xs ≡ true → is_some (position_from test n xs) ≡ true
any_from test n [] e = absurd cc
any_from test n (x ∷ xs) e = here (test x) e (any_from test (n + 1) xs)
  where
    here : (b : Bool) → (b || list_any test xs) ≡ true → (list_any test xs ≡ true → is_some (position_from test (n + 1) xs) ≡ true) → is_some (cond b (Some n) (position_from test (n + 1) xs)) ≡ true
    here true e more = refl
    here false e more = more e

all_got : {X : Type 0} → (Q : X → Type 0) (xs : List X) (i : ℕ) (x : X) → AllByRecursion Q xs → slice_get xs i ≡ Some x → Q x
all_got Q [] i x q e = absurd cc
all_got Q (y ∷ ys) zero x q e = let same : y ≡ x = cc in subst Q same q.0
all_got Q (y ∷ ys) (suc i) x q e = all_got Q ys i x q.1 e

some_of : {X : Type 0} → (o : Option X) → is_some o ≡ true → (x : X) × (o ≡ Some x)
some_of (Some x) e = (x, refl)
some_of None e = absurd cc

module _ (declarations : List Declaration) where
  -- the objects of a sort that is declared
  objects_at : (name : List ℕ) → is_sort declarations name ≡ true → objects_of (universe declarations) (number_in (sort_names declarations) name) ≡ members declarations name
  objects_at name there =
      let names = sort_names declarations in
      let some = some_of (position (same_text name) names) (ap is_some (position_from-zero (same_text name) names) ∙ any_from (same_text name) 0 names there) in
      let found = position-Some (same_text name) names some.0 [] some.1 in
      let same : name ≡ get_or names some.0 [] = texts_same name (get_or names some.0 []) (sym found.1) in
      ap (λ (o : Option ℕ). objects_of (universe declarations) (unwrap_or o 0)) some.1
      ∙ get_or-map (members declarations) names some.0 [] [] found.0
      ∙ sym (ap (members declarations) same)

  values_at : (kind : PlainKind) → is_sort declarations (value_sort kind) ≡ true →
      domain_of declarations kind ≡ with_none (action_of declarations kind) (objects_of (universe declarations) (number_in (sort_names declarations) (value_sort kind)))
  values_at (trees.Plain word sort) there = sym (objects_at (value_sort (trees.Plain word sort)) there)
  values_at (trees.Attribute sort action) there = ap (λ (l : List ℕ). none_value ∷ l) (sym (objects_at sort there))

  below_itself : (pairs : List Pair) → is_below pairs boolean boolean ≡ true
  below_itself [] = refl
  below_itself (pair ∷ pairs) = ap (λ (b : Bool). b || (is_below pairs boolean pair.1 && is_below pairs pair.0 boolean)) (below_itself pairs)

  pub values_are : AreKnown declarations → HaveTheirValues (universe declarations)
  values_are known = record {
    others = two_behind (map (object_at declarations) (numbers_where (λ put. is_below (pairs declarations) put.sort boolean) 2 (flat_map put_declared declarations)));
    booleans = ap firsts (first_two (is_below (pairs declarations) boolean boolean) (below_itself (pairs declarations)) _ _ _) ∙ two_firsts _ _ _ zeroth first;
    values = both_kinds declarations (λ (c : Const). c.domain ≡ values_of (universe declarations) c.symbol)
        (λ number constant e args. values_at constant.kind (known_at number constant e) ∙ sym (ap (values_of_symbol (universe declarations)) (symbol_at declarations number constant e)));
  }
    where
      -- those behind 0 and 1
      two_behind : List ℕ → List ℕ
      two_behind rest = filter (λ other. not (other == 0)) (filter (λ other. not (other == 1)) (firsts rest))

      first_two : (b : Bool) → b ≡ true → (rest other : List ℕ) (more : List ℕ) →
          map (object_at declarations) (if b then 0 ∷ (if b then 1 ∷ rest else other) else more) ≡ object_at declarations 0 ∷ object_at declarations 1 ∷ map (object_at declarations) rest
      first_two true e rest other more = refl
      first_two false e rest other more = absurd cc

      two_firsts : (one other : ℕ) (rest : List ℕ) → one ≡ 0 → other ≡ 1 → firsts (one ∷ other ∷ rest) ≡ 0 ∷ 1 ∷ filter (λ other. not (other == 0)) (filter (λ other. not (other == 1)) (firsts rest))
      two_firsts one other rest e f = ap (λ (n : ℕ). firsts (n ∷ other ∷ rest)) e ∙ ap (λ (n : ℕ). firsts (0 ∷ n ∷ rest)) f

      zeroth : object_at declarations 0 ≡ 0
      zeroth = ap (λ (o : Option ℕ). unwrap_or o 0) (position_from-zero (λ (other : Put). same_text (codes "false") other.name) (first_puts declarations))

      first : object_at declarations 1 ≡ 1
      first = ap (λ (o : Option ℕ). unwrap_or o 0) (position_from-zero (λ (other : Put). same_text (codes "true") other.name) (first_puts declarations))

      known_at : (number : ℕ) (constant : Declared) → slice_get (constants declarations) number ≡ Some constant → is_sort declarations (value_sort constant.kind) ≡ true
      known_at number constant e = all_got (λ (c : Declared). IsTrue (is_sort declarations (value_sort c.kind))) (constants declarations) number constant known.of_values e
