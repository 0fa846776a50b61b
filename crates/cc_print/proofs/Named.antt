-- The constants of a table's signature have names in the table, and are few.
use Rattle.std.proofs.Common.{◌≡◌, ◌∙◌, ℕ, zero, suc, ◌+◌, ◌<◌, ◌≤◌, Bool, true, false, if◌then◌else◌, not, cond, filter, nat_lt, ◌==◌, position, slice_get, unwrap_or, List, [], ◌∷◌, ◌++◌, length, map, flat_map, Option, Some, None, inl, inr, refl, sym, ap, subst, arith, length-append}
use Rattle.std.proofs.lemmas.Bool.{lt-ltb, cases_lt}
use Rattle.std.proofs.lemmas.List.{length-map}
use Rattle.std.proofs.lemmas.List.Quantifiers.{position-Some}
use Rattle.std.proofs.lemmas.Option.{same_Some}
use Rattle.std.specs.List.{AllByRecursion, find}
use Rattle.cc_defs.specs.declared.refusal.Refusal.{Refusal}
use Rattle.cc_defs.specs.declared.signature.Const.{Const}
use Rattle.cc_defs.specs.declared.signature.Kind.{Kind}
use Rattle.cc_defs.specs.DeclarationFaults.{count_refusal, declared_ground, empty_or, is_empty, passes_domain_values}
use Rattle.cc_defs.specs.Declarations.{Declaration, Declared, domain_of, ground_actions, ground_fluents, ground_from, ground_of, instances, is_action, kind_of_constant, members, Put, puts, first_puts, firsts, object_at, object_of, placed, objects, constants}
use Rattle.cc_defs.specs.Grammar.{same_text}
use Rattle.cc_defs.specs.Signatures.{Signature, ground_constants}
use Rattle.cc_defs.specs.Trees.{PlainKind}
use Rattle.cc_defs.specs.Trees as trees
use Rattle.cc_sorts.specs.Tables.{IsSignatureFor, IsTable, TableView}
use Rattle.cc_print.specs.Histories.{AreNamed, IsNamed, IsNamedValue}

all_append : {X : Type 0} (P : X → Type 0) (xs ys : List X) → AllByRecursion P xs → AllByRecursion P ys → AllByRecursion P (xs ++ ys)
all_append P [] ys a b = b
all_append P (x ∷ xs) ys a b = (a.0, all_append P xs ys a.1 b)

all_at : {X : Type 0} (P : X → Type 0) (xs : List X) (n : ℕ) (x : X) → AllByRecursion P xs → slice_get xs n ≡ Some x → P x
all_at P [] zero x all e = absurd cc
all_at P [] (suc n) x all e = absurd cc
all_at P (y ∷ ys) zero x all e = subst P (same_Some y x e) all.0
all_at P (y ∷ ys) (suc n) x all e = all_at P ys n x all.1 e

pub named_there : (table : TableView) (s : Signature) → AreNamed table s → (n : ℕ) (c : Const) → Some c ≡ slice_get (ground_constants s) n → IsNamed table c
named_there table s named n c e = all_at (IsNamed table) (ground_constants s) n c (all_append (IsNamed table) s.fluents s.actions named.fluents named.actions) (sym e)

all_kept : (P : ℕ → Type 0) (test : ℕ → Bool) (xs : List ℕ) → AllByRecursion P xs → AllByRecursion P (filter test xs)
all_kept P test [] all = tt
all_kept P test (x ∷ xs) all = here (test x) (all_kept P test xs all.1)
  where
    here : (b : Bool) → AllByRecursion P (filter test xs) → AllByRecursion P (cond b (x ∷ filter test xs) (filter test xs))
    here true others = (all.0, others)
    here false others = others

all_firsts : (P : ℕ → Type 0) (xs : List ℕ) → AllByRecursion P xs → AllByRecursion P (firsts xs)
all_firsts P [] all = tt
all_firsts P (x ∷ xs) all = (all.0, all_kept P (λ other. not (other == x)) (firsts xs) (all_firsts P xs all.1))

no_put : Put
no_put = record { name = []; number = None; sort = [] }

module _ (table : TableView) (left : List Declaration) (is : IsTable table left) where
  abbrev Value : ℕ → Type 0
  Value = IsNamedValue table

  many_objects : length table.objects ≡ length (objects left)
  many_objects = ap length is.objects_are ∙ length-map (objects left) _

  many_symbols : length table.symbols ≡ length (constants left)
  many_symbols = ap length is.symbols_are ∙ length-map (constants left) _

  many_firsts : length table.objects ≡ length (first_puts left)
  many_firsts = many_objects ∙ length-map (first_puts left) (λ (put : Put). (put.name, put.sort))

  place_named : (test : Put → Bool) (found : Option ℕ) → position test (first_puts left) ≡ found → unwrap_or found 0 < length table.objects
  place_named test None e = omega (arith, many_firsts)
  place_named test (Some i) e = let within = (position-Some test (first_puts left) i no_put e).0 in omega (arith, many_firsts)

  object_named : (put : Option Put) → object_of (first_puts left) put < length table.objects
  object_named (Some put) = place_named (λ other. same_text put.name other.name) (position (λ other. same_text put.name other.name) (first_puts left)) refl
  object_named None = omega (arith, many_firsts)

  objects_named : (places : List ℕ) → AllByRecursion Value (map (object_at left) places)
  objects_named [] = tt
  objects_named (place ∷ places) = (inr (object_named (slice_get (puts left) place)), objects_named places)

  members_named : (sort : List ℕ) → AllByRecursion Value (members left sort)
  members_named sort = all_firsts Value (map (object_at left) (placed left sort)) (objects_named (placed left sort))

  domain_named : (kind : PlainKind) → AllByRecursion Value (domain_of left kind)
  domain_named (trees.Plain word sort) = members_named _
  domain_named (trees.Attribute sort action) = (inl refl, members_named sort)

  abbrev Rows : List (List ℕ) → Type 0
  Rows rows = AllByRecursion (AllByRecursion Value) rows

  with_object : (object : ℕ) → Value object → (rows : List (List ℕ)) → Rows rows → Rows (map (λ args. object ∷ args) rows)
  with_object object named [] all = tt
  with_object object named (row ∷ rows) all = ((named, all.0), with_object object named rows all.1)

  with_each : (rows : List (List ℕ)) → Rows rows → (all : List ℕ) → AllByRecursion Value all → Rows (flat_map (λ object. map (λ args. object ∷ args) rows) all)
  with_each rows named [] all = tt
  with_each rows named (object ∷ others) all = all_append (AllByRecursion Value) (map (λ args. object ∷ args) rows) _ (with_object object all.0 rows named) (with_each rows named others all.1)

  instances_named : (sorts : List (List ℕ)) → Rows (instances left sorts)
  instances_named [] = (tt, tt)
  instances_named (sort ∷ sorts) = with_each (instances left sorts) (instances_named sorts) (members left sort) (members_named sort)

  rows_named : (number : ℕ) (constant : Declared) → number < length table.symbols → (rows : List (List ℕ)) → Rows rows → AllByRecursion (IsNamed table)
      (map (λ args. record { symbol = number; args = args; kind = kind_of_constant constant.kind; domain = domain_of left constant.kind }) rows)
  rows_named number constant below [] all = tt
  rows_named number constant below (row ∷ rows) all = (record { symbol = below; args = all.0; domain = domain_named constant.kind }, rows_named number constant below rows all.1)

  ground_named : (passes : Kind → Bool) (number : ℕ) (cs : List Declared) → number + length cs ≤ length table.symbols → AllByRecursion (IsNamed table) (ground_from left passes number cs)
  ground_named passes number [] within = tt
  ground_named passes number (constant ∷ cs) within =
      all_append (IsNamed table) (if passes (kind_of_constant constant.kind) then ground_of left number constant else []) (ground_from left passes (number + 1) cs)
      (here (passes (kind_of_constant constant.kind))) (ground_named passes (number + 1) cs (omega arith))
    where
      here : (b : Bool) → AllByRecursion (IsNamed table) (if b then ground_of left number constant else [])
      here true = rows_named number constant (omega arith) (instances left constant.shape.sorts) (instances_named constant.shape.sorts)
      here false = tt

-- a signature that is not refused has few constants
unless_empty : (found : Option (Declared × Const)) (refusal : Option Refusal) → empty_or found refusal ≡ None → refusal ≡ None
unless_empty (Some pair) refusal e = absurd cc
unless_empty None refusal e = e

few_where : (wide many : Bool) (first second : Refusal) → (if wide then Some first else (if many then Some second else None)) ≡ None → many ≡ false
few_where true many first second e = absurd cc
few_where false true first second e = absurd cc
few_where false false first second e = refl

few_constants : (all : List Const) → count_refusal all ≡ None → length all ≤ 20000
few_constants all none =
    let few = few_where (passes_domain_values all) (nat_lt 20000 (length all)) _ _ none in
    elim (cases_lt 20000 (length all)) [
      | inl many ↦ absurd (let e = lt-ltb 20000 (length all) many in cc)
      | inr few ↦ few
    ]

pub are_named : (table : TableView) (s : Signature) → IsSignatureFor table s → AreNamed table s
are_named table s for =
    let left = for.0 in
    let is = for.1 in
    let of = for.2 in
    let all = few_constants (ground_fluents left ++ ground_actions left) (unless_empty (find (λ found. is_empty found.1) (declared_ground left)) _ of.0) in
    subst (AreNamed table) (sym of.1) (record {
      few = omega (arith, length-append (ground_fluents left) (ground_actions left));
      fluents = ground_named table left is (λ kind. not (is_action kind)) 0 (constants left) (omega (arith, many_symbols table left is));
      actions = ground_named table left is is_action 0 (constants left) (omega (arith, many_symbols table left is));
    })
