-- The instances of a table are the instances of its declarations.
use Rattle.std.proofs.Common.{◌≡◌, ◌∙◌, ℕ, zero, suc, ◌+◌, ◌<◌, ◌≤◌, ◌^◌, Bool, true, false, not, cond, nat_lt, List, [], ◌∷◌, ◌++◌, length, map, flat_map, slice_get, slice_index_or, Option, Some, None, inl, inr, refl, sym, ap, subst, arith, append_assoc, length-append}
use Rattle.std.specs.Prelude.{if◌then◌else◌}
use Rattle.std.specs.List.{list_all, find}
use Rattle.std.specs.Option.{option_or}
use Rattle.std.proofs.lemmas.Bool.{cases_lt, lt-ltb}
use Rattle.std.proofs.lemmas.List.{length-map}
use Rattle.std.proofs.lemmas.List.Folds.{list_any-append, find-append}
use Rattle.cc_defs.specs.declared.refusal.LimitAt.TheVariants as limits
use Rattle.cc_defs.specs.declared.refusal.Refusal.{Refusal}
use Rattle.cc_defs.specs.declared.signature.Const.{Const}
use Rattle.cc_defs.specs.declared.signature.Kind.{Kind}
use Rattle.cc_defs.specs.DeclarationFaults.{is_empty, declared_from, declared_ground, empty_or, passes_domain_values, count_refusal, limit_refusal, signature_refusal}
use Rattle.cc_defs.specs.Refusals.{refused}
use Rattle.cc_defs.specs.Declarations.{Declaration, Declared, Named, sort_names, constants, constant_names, members, number_in, domain_of, instances, ground_of, ground_from, is_action, kind_of_constant, value_sort, ground_fluents, ground_actions, objects}
use Rattle.cc_defs.specs.Signatures.{Signature, IsSignature, AreShort, none_value}
use Rattle.cc_defs.specs.Trees.{PlainKind}
use Rattle.cc_defs.specs.Trees as trees
use Rattle.cc_sorts.specs.declared.table.Placed.{Placed}
use Rattle.cc_defs.specs.Universe.{with_none}
use Rattle.cc_sorts.specs.Instances.{rows_by, constant_by, passes, instances_from, all_instances, refusal_at, first_refusal, refusal_by}
use Rattle.cc_sorts.specs.SortViews.{members_at}
use Rattle.cc_sorts.specs.Steps.{action_in}
use Rattle.cc_sorts.specs.Tables.{TableView, Numbered, IsTable, IsSignatureOf}
use Rattle.cc_sorts.proofs.Names.{is_among, and_true, or_false, is_there}
use Rattle.cc_sorts.proofs.Wheres.{at_map}
use Rattle.cc_sorts.proofs.Grown.{placed_same, placed_by, AreShaped, HaveValues}

-- ---- the declaration of the first ground constant without a value

-- the symbol of the one is the number of the declaration of the other
abbrev IsPlace : List Declared → Option Const → Option (Declared × Const) → Type 0
IsPlace all None None = Unit {0}
IsPlace all None (Some pair) = ⊥
IsPlace all (Some instance) None = ⊥
IsPlace all (Some instance) (Some pair) = slice_get all instance.symbol ≡ Some pair.0

place_or : (all : List Declared) (o o' : Option Const) (p p' : Option (Declared × Const)) → IsPlace all o p → IsPlace all o' p' → IsPlace all (option_or o o') (option_or p p')
place_or all None o' None p' e f = f
place_or all None o' (Some p) p' e f = absurd e
place_or all (Some o) o' None p' e f = absurd e
place_or all (Some o) o' (Some p) p' e f = e

abbrev is_empty_pair : Declared × Const → Bool
is_empty_pair pair = is_empty pair.1

place_append : (all : List Declared) (xs ys : List Const) (ps qs : List (Declared × Const)) → IsPlace all (find is_empty xs) (find is_empty_pair ps) → IsPlace all (find is_empty ys) (find is_empty_pair qs) →
    IsPlace all (find is_empty (xs ++ ys)) (find is_empty_pair (ps ++ qs))
place_append all xs ys ps qs e f =
    let P : Option Const → Type 0 = λ o. IsPlace all o (find is_empty_pair (ps ++ qs)) in
    let Q : Option (Declared × Const) → Type 0 = λ p. IsPlace all (option_or (find is_empty xs) (find is_empty ys)) p in
    subst P (sym (find-append is_empty xs ys))
    (subst Q (sym (find-append is_empty_pair ps qs)) (place_or all (find is_empty xs) (find is_empty ys) (find is_empty_pair ps) (find is_empty_pair qs) e f))

place_rows : (all : List Declared) (d : Declared) (f : List ℕ → Const) → ((row : List ℕ) → slice_get all (f row).symbol ≡ Some d) → (rows : List (List ℕ)) →
    IsPlace all (find is_empty (map f rows)) (find is_empty_pair (map (λ (instance : Const). (d, instance)) (map f rows)))
place_rows all d f e [] = tt
place_rows all d f e (row ∷ rows) = step (is_empty (f row)) (place_rows all d f e rows)
  where
    step : (here : Bool) → IsPlace all (find is_empty (map f rows)) (find is_empty_pair (map (λ (instance : Const). (d, instance)) (map f rows))) →
        IsPlace all (cond here (Some (f row)) (find is_empty (map f rows))) (cond here (Some (d, f row)) (find is_empty_pair (map (λ (instance : Const). (d, instance)) (map f rows))))
    step true more = e row
    step false more = more

at_end : (front cs : List Declared) (d : Declared) → slice_get (front ++ d ∷ cs) (length front) ≡ Some d
at_end [] cs d = refl
at_end (x ∷ front) cs d = at_end front cs d

place_from : (left : List Declaration) (passes : Kind → Bool) (front cs : List Declared) (number : ℕ) → number ≡ length front →
    IsPlace (front ++ cs) (find is_empty (ground_from left passes number cs)) (find is_empty_pair (declared_from left passes number cs))
place_from left passes front [] number e = tt
place_from left passes front (d ∷ cs) number e =
    let P : List Declared → Type 0 = λ w. IsPlace w (find is_empty (ground_from left passes (number + 1) cs)) (find is_empty_pair (declared_from left passes (number + 1) cs)) in
    let count : number + 1 ≡ length (front ++ d ∷ []) = omega (arith, e, length-append front (d ∷ [])) in
    place_append (front ++ d ∷ cs) (if passes (kind_of_constant d.kind) then ground_of left number d else []) (ground_from left passes (number + 1) cs)
    (if passes (kind_of_constant d.kind) then map (λ (instance : Const). (d, instance)) (ground_of left number d) else []) (declared_from left passes (number + 1) cs)
    (step (passes (kind_of_constant d.kind)))
    (subst P (append_assoc front (d ∷ []) cs) (place_from left passes (front ++ d ∷ []) cs (number + 1) count))
  where
    there : slice_get (front ++ d ∷ cs) number ≡ Some d
    there = ap (slice_get (front ++ d ∷ cs)) e ∙ at_end front cs d

    step : (here : Bool) → IsPlace (front ++ d ∷ cs) (find is_empty (if here then ground_of left number d else [])) (find is_empty_pair (if here then map (λ (instance : Const). (d, instance)) (ground_of left number d) else []))
    step true = place_rows (front ++ d ∷ cs) d (λ args. record { symbol = number; args = args; kind = kind_of_constant d.kind; domain = domain_of left d.kind }) (λ row. there) (instances left d.shape.sorts)
    step false = tt

place_ground : (left : List Declaration) → IsPlace (constants left) (find is_empty (ground_fluents left ++ ground_actions left)) (find is_empty_pair (declared_ground left))
place_ground left =
    place_append (constants left) (ground_fluents left) (ground_actions left) (declared_from left (λ kind. not (is_action kind)) 0 (constants left)) (declared_from left is_action 0 (constants left))
    (place_from left (λ kind. not (is_action kind)) [] (constants left) 0 refl) (place_from left is_action [] (constants left) 0 refl)

module _ (table : TableView) (left : List Declaration) (is : IsTable table left) where
  objects_are : (sort : List ℕ) → is_among (sort_names left) sort ≡ true → members_at table.sorts (number_in (sort_names left) sort) ≡ members left sort
  objects_are sort e =
      let there = is_there (sort_names left) sort e in
      ap (λ (n : ℕ). members_at table.sorts n) there.is_number ∙ ap (λ (w : List (List ℕ)). slice_index_or w there.number []) is.members_are
      ∙ at_map (members left) (sort_names left) there.number there.within ∙ ap (members left) there.named

  rows_are : (names : List (List ℕ)) → list_all (is_among (sort_names left)) names ≡ true → rows_by table.sorts (map (number_in (sort_names left)) names) ≡ instances left names
  rows_are [] e = refl
  rows_are (sort ∷ others) e =
      let parts = and_true (is_among (sort_names left) sort) (list_all (is_among (sort_names left)) others) e in
      ap (λ (w : List ℕ). flat_map (λ (o : ℕ). map (λ (args : List ℕ). o ∷ args) (rows_by table.sorts (map (number_in (sort_names left)) others))) w) (objects_are sort parts.0)
      ∙ ap (λ (w : List (List ℕ)). flat_map (λ (o : ℕ). map (λ (args : List ℕ). o ∷ args) w) (members left sort)) (rows_are others parts.1)

  values_are : (kind : PlainKind) → is_among (sort_names left) (value_sort kind) ≡ true →
      with_none (action_in (constant_names left) kind) (members_at table.sorts (number_in (sort_names left) (value_sort kind))) ≡ domain_of left kind
  values_are (trees.Plain word sort) e = objects_are (value_sort (trees.Plain word sort)) e
  values_are (trees.Attribute sort action) e = ap (λ (w : List ℕ). none_value ∷ w) (objects_are sort e)

  abbrev constant_as : ℕ → Kind → List ℕ → List ℕ → Const
  constant_as number kind values args = record { symbol = number; args = args; kind = kind; domain = values }

  of_constant : (number : ℕ) (c : Declared) → list_all (is_among (sort_names left)) c.shape.sorts ≡ true → is_among (sort_names left) (value_sort c.kind) ≡ true →
      map (constant_by table.sorts number (placed_by (sort_names left) (constant_names left) c).symbol) (rows_by table.sorts (map (number_in (sort_names left)) c.shape.sorts)) ≡ ground_of left number c
  of_constant number c p q =
      ap (λ (w : List ℕ). map (constant_as number (kind_of_constant c.kind) w) (rows_by table.sorts (map (number_in (sort_names left)) c.shape.sorts))) (values_are c.kind q)
      ∙ ap (λ (w : List (List ℕ)). map (constant_as number (kind_of_constant c.kind) (domain_of left c.kind)) w) (rows_are c.shape.sorts p)

  all_constants : (actions : Bool) (number : ℕ) (cs : List Declared) → AreShaped (sort_names left) cs → HaveValues (sort_names left) cs →
      instances_from table.sorts actions number (map (placed_by (sort_names left) (constant_names left)) cs) ≡ ground_from left (passes actions) number cs
  all_constants actions number [] p q = refl
  all_constants actions number (c ∷ cs) p q =
      ap (λ (w : List Const). (if passes actions (kind_of_constant c.kind) then w else []) ++ instances_from table.sorts actions (number + 1) (map (placed_by (sort_names left) (constant_names left)) cs))
      (of_constant number c p.0 q.0)
      ∙ ap (λ (w : List Const). (if passes actions (kind_of_constant c.kind) then ground_of left number c else []) ++ w) (all_constants actions (number + 1) cs p.1 q.1)

  symbols_of : table.symbols ≡ map (placed_by (sort_names left) (constant_names left)) (constants left)
  symbols_of = is.symbols_are ∙ placed_same left (constants left)

  pub fluents_are : instances_from table.sorts false 0 table.symbols ≡ ground_fluents left
  fluents_are = ap (λ (w : List Placed). instances_from table.sorts false 0 w) symbols_of ∙ all_constants false 0 (constants left) is.known.of_arguments is.known.of_values

  pub actions_are : instances_from table.sorts true 0 table.symbols ≡ ground_actions left
  actions_are = ap (λ (w : List Placed). instances_from table.sorts true 0 w) symbols_of ∙ all_constants true 0 (constants left) is.known.of_arguments is.known.of_values

  place_at : (cs : List Declared) (i : ℕ) (d : Declared) → slice_get cs i ≡ Some d → refusal_at (slice_get (map (placed_by (sort_names left) (constant_names left)) cs) i) ≡ refused 12 d.file d.line
  place_at [] i d e = absurd cc
  place_at (c ∷ cs) zero d e = let same : c ≡ d = cc in ap (λ (w : Declared). refused 12 w.file w.line) same
  place_at (c ∷ cs) (suc i) d e = place_at cs i d e

  first_is : (all : List Const) (found : Option Const) (pair : Option (Declared × Const)) → IsPlace (constants left) found pair →
      first_refusal table.symbols all found ≡ empty_or pair (count_refusal all)
  first_is all None None e = refl
  first_is all None (Some p) e = absurd e
  first_is all (Some c) None e = absurd e
  first_is all (Some c) (Some p) e =
      ap (λ (w : List Placed). Some (refusal_at (slice_get w c.symbol))) symbols_of ∙ ap (λ (r : Refusal). Some r) (place_at (constants left) c.symbol p.0 e)

  pub refusal_is : refusal_by table ≡ signature_refusal left
  refusal_is =
      let all : all_instances table ≡ ground_fluents left ++ ground_actions left =
      ap (λ (w : List Const). w ++ instances_from table.sorts true 0 table.symbols) fluents_are ∙ ap (λ (w : List Const). ground_fluents left ++ w) actions_are in
      ap (λ (w : List Const). first_refusal table.symbols w (find is_empty w)) all
      ∙ first_is (ground_fluents left ++ ground_actions left) (find is_empty (ground_fluents left ++ ground_actions left)) (find (λ (p : Declared × Const). is_empty p.1) (declared_ground left)) (place_ground left)

-- ---- without a refusal the instances are few, and their values too

counted : (all : List Const) → count_refusal all ≡ None → (passes_domain_values all ≡ false) × (length all ≤ 20000)
counted all e = step (passes_domain_values all) (nat_lt 20000 (length all)) refl e
  where
    few : nat_lt 20000 (length all) ≡ false → length all ≤ 20000
    few m = elim (cases_lt 20000 (length all)) [ inl less ↦ absurd (cc (m, lt-ltb 20000 (length all) less)) | inr least ↦ least ]

    step : (wide many : Bool) → nat_lt 20000 (length all) ≡ many →
        (if wide then Some (limit_refusal limits.DomainValues) else (if many then Some (limit_refusal limits.GroundConstants) else None)) ≡ None → (wide ≡ false) × (length all ≤ 20000)
    step true many m e = absurd cc
    step false true m e = absurd cc
    step false false m e = (refl, few m)

unrefused : (symbols : List Placed) (all : List Const) (found : Option Const) → first_refusal symbols all found ≡ None → count_refusal all ≡ None
unrefused symbols all (Some c) e = absurd cc
unrefused symbols all None e = e

short_all : (cs : List Const) → passes_domain_values cs ≡ false → AreShort cs
short_all [] e = tt
short_all (c ∷ cs) e =
    let parts = or_false (nat_lt 1000 (length c.domain)) (passes_domain_values cs) e in
    (short (length c.domain) parts.0, short_all cs parts.1)
  where
    short : (n : ℕ) → nat_lt 1000 n ≡ false → n < 2 ^ 32
    short n m = elim (cases_lt 1000 n) [ inl less ↦ absurd (cc (m, lt-ltb 1000 n less)) | inr least ↦ omega arith ]

pub signature_of : (table : TableView) (fluents actions : List Const) → refusal_by table ≡ None → fluents ≡ instances_from table.sorts false 0 table.symbols →
    actions ≡ instances_from table.sorts true 0 table.symbols → (numbers : List (Option ℕ)) → IsSignature (record { fluents = fluents; actions = actions; numbers = numbers })
signature_of table fluents actions none f a numbers =
    let same : all_instances table ≡ fluents ++ actions =
    ap (λ (w : List Const). w ++ instances_from table.sorts true 0 table.symbols) (sym f) ∙ ap (λ (w : List Const). fluents ++ w) (sym a) in
    let c = counted (all_instances table) (unrefused table.symbols (all_instances table) (find is_empty (all_instances table)) none) in
    let wide : passes_domain_values (fluents ++ actions) ≡ false = ap (λ (w : List Const). passes_domain_values w) (sym same) ∙ c.0 in
    let parts = or_false (passes_domain_values fluents) (passes_domain_values actions)
    (sym (list_any-append (λ (c : Const). nat_lt 1000 (length c.domain)) fluents actions) ∙ wide) in
    let count : length (all_instances table) ≡ length fluents + length actions = ap (λ (w : List Const). length w) same ∙ length-append fluents actions in
    record {
      few = omega (arith, c.1, count);
      fluents_short = short_all fluents parts.0;
      actions_short = short_all actions parts.1;
    }

pub refused_of : (table : TableView) (refusal : Refusal) → Some refusal ≡ refusal_by table → (left : List Declaration) → IsTable table left → signature_refusal left ≡ Some refusal
refused_of table refusal e left is = sym (refusal_is table left is) ∙ sym e

abbrev signature_with : List Const → List Const → List (Option ℕ) → Signature
signature_with fluents actions numbers = record { fluents = fluents; actions = actions; numbers = numbers }

pub made_of : (table : TableView) (signature : Signature) (fluents actions : List Const) (known : List (Option ℕ)) → refusal_by table ≡ None →
    signature ≡ record { fluents = fluents; actions = actions; numbers = known } → known ≡ table.numbers →
    fluents ≡ instances_from table.sorts false 0 table.symbols → actions ≡ instances_from table.sorts true 0 table.symbols → length table.objects ≤ none_value →
    (left : List Declaration) → IsTable table left → IsSignatureOf left signature
made_of table signature fluents actions known none s k f a numbered_all left is = (
  sym (refusal_is table left is) ∙ none,
  s ∙ ap (λ (w : List Const). signature_with w actions known) (f ∙ fluents_are table left is)
      ∙ ap (λ (w : List Const). signature_with (ground_fluents left) w known) (a ∙ actions_are table left is)
      ∙ ap (λ (w : List (Option ℕ)). signature_with (ground_fluents left) (ground_actions left) w) (k ∙ is.numbers_are),
  let there : length table.objects ≡ length (objects left) =
      ap (λ (w : List Numbered). length w) is.objects_are ∙ length-map (objects left) (λ (o : Named). (o.0, number_in (sort_names left) o.1))
      in omega (arith, numbered_all, there),
)
