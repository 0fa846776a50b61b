-- The declarations of a statement without a fault are clear.
use Rattle.std.proofs.Common.{◌≡◌, ◌∙◌, ℕ, Bool, true, false, not, ◌&&◌, ◌||◌, cond, List, [], ◌∷◌, ◌++◌, map, flat_map, Option, Some, None, refl, sym, ap, subst, append_assoc}
use Rattle.std.specs.Prelude.{if◌then◌else◌}
use Rattle.std.specs.List.{list_any, list_all, find}
use Rattle.std.proofs.lemmas.List.{append-nil}
use Rattle.cc_defs.specs.Declarations.{Declaration, Sort, Link, Subsort, Object, Span, Number, member_declarations, from_to, Variable, Constant, Kinds, Declared, constants, constant_names, constant_declared, value_sort, chain_behind, sort_declarations, object_declarations, variable_declarations, constant_declarations, part_declarations, declarations_of}
use Rattle.cc_defs.specs.DeclarationFaults.{is_sort, are_sorts, is_taken, is_twice, is_unknown, has_unknown, has_wrong_count, has_wrong_sort, any_has, declaration_fault, constant_named, declared_sorts, same_sorts, is_plain, is_boolean_action}
use Rattle.cc_defs.specs.Grammar.{same_text}
use Rattle.cc_defs.specs.Trees.{PlainShape, PlainSortItem, PlainMember, PlainListItem, PlainKind, PlainConstItem, PlainPart, PlainStatement}
use Rattle.cc_defs.specs.Trees as trees
use Rattle.cc_sorts.specs.Steps.{IsClearPair, IsClearName, IsClearConstant, AllClear}
use Rattle.cc_sorts.specs.Tables.{has_action}
use Rattle.cc_sorts.proofs.Denied.{not_all, not_third, not_middle}
use Rattle.cc_sorts.proofs.Names.{is_among, or_false, and_true, flat_end}
use Rattle.cc_sorts.proofs.Behind.{known_link, known_more, names_same}

-- ---- no fault

pub record NoFault (left ds : List Declaration) : Type 0 where
  pub once : any_has is_twice left ds ≡ false
  pub known : any_has is_unknown left ds ≡ false
  pub fitting : any_has has_wrong_sort left ds ≡ false

abbrev fault_of : Bool → Bool → Bool → Bool → Option ℕ
fault_of a b c d = if a then Some 4 else (if b then Some 5 else (if c then Some 6 else (if d then Some 7 else None)))

if_none : (a b c d : Bool) → fault_of a b c d ≡ None → (a ≡ false) × (b ≡ false) × (d ≡ false)
if_none true b c d e = absurd cc
if_none false true c d e = absurd cc
if_none false false true d e = absurd cc
if_none false false false true e = absurd cc
if_none false false false false e = (refl, refl, refl)

pub no_fault : (left ds : List Declaration) → declaration_fault left ds ≡ None → NoFault left ds
no_fault left ds e =
    let parts = if_none (any_has is_twice left ds) (any_has is_unknown left ds) (any_has has_wrong_count left ds) (any_has has_wrong_sort left ds) e in
    record { once = parts.0; known = parts.1; fitting = parts.2 }

no_fault_first : (left : List Declaration) (d : Declaration) (ds : List Declaration) → NoFault left (d ∷ ds) → (is_twice left d ≡ false) × (is_unknown left d ≡ false) × (has_wrong_sort left d ≡ false)
no_fault_first left d ds n = (
  (or_false (is_twice left d) (any_has is_twice (left ++ d ∷ []) ds) n.once).0,
  (or_false (is_unknown left d) (any_has is_unknown (left ++ d ∷ []) ds) n.known).0,
  (or_false (has_wrong_sort left d) (any_has has_wrong_sort (left ++ d ∷ []) ds) n.fitting).0,
)

no_fault_rest : (left : List Declaration) (d : Declaration) (ds : List Declaration) → NoFault left (d ∷ ds) → NoFault (left ++ d ∷ []) ds
no_fault_rest left d ds n = record {
  once = (or_false (is_twice left d) (any_has is_twice (left ++ d ∷ []) ds) n.once).1;
  known = (or_false (is_unknown left d) (any_has is_unknown (left ++ d ∷ []) ds) n.known).1;
  fitting = (or_false (has_wrong_sort left d) (any_has has_wrong_sort (left ++ d ∷ []) ds) n.fitting).1;
}

or_same : (a b c : Bool) → a || (b || c) ≡ ((a || b) || c)
or_same true b c = refl
or_same false b c = refl

pub has_append : (fault : List Declaration → Declaration → Bool) (left xs ys : List Declaration) → any_has fault left (xs ++ ys) ≡ (any_has fault left xs || any_has fault (left ++ xs) ys)
has_append fault left [] ys = ap (λ (w : List Declaration). any_has fault w ys) (sym (append-nil left))
has_append fault left (x ∷ xs) ys =
    ap (λ (b : Bool). fault left x || b) (has_append fault (left ++ x ∷ []) xs ys)
    ∙ or_same (fault left x) (any_has fault (left ++ x ∷ []) xs) (any_has fault ((left ++ x ∷ []) ++ xs) ys)
    ∙ ap (λ (w : List Declaration). (fault left x || any_has fault (left ++ x ∷ []) xs) || any_has fault w ys) (append_assoc left (x ∷ []) xs)

no_fault_parts : (left xs ys : List Declaration) → NoFault left (xs ++ ys) → NoFault left xs × NoFault (left ++ xs) ys
no_fault_parts left xs ys n =
    let a = or_false (any_has is_twice left xs) (any_has is_twice (left ++ xs) ys) (sym (has_append is_twice left xs ys) ∙ n.once) in
    let b = or_false (any_has is_unknown left xs) (any_has is_unknown (left ++ xs) ys) (sym (has_append is_unknown left xs ys) ∙ n.known) in
    let c = or_false (any_has has_wrong_sort left xs) (any_has has_wrong_sort (left ++ xs) ys) (sym (has_append has_wrong_sort left xs ys) ∙ n.fitting) in
    (record { once = a.0; known = b.0; fitting = c.0 }, record { once = a.1; known = b.1; fitting = c.1 })

clear_append : (left xs ys : List Declaration) → AllClear left xs → AllClear (left ++ xs) ys → AllClear left (xs ++ ys)
clear_append left [] ys p q = let P : List Declaration → Type 0 = λ w. AllClear w ys in subst P (append-nil left) q
clear_append left (x ∷ xs) ys p q =
    let P : List Declaration → Type 0 = λ w. AllClear w ys in
    (p.0, clear_append (left ++ x ∷ []) xs ys p.1 (subst P (sym (append_assoc left (x ∷ []) xs)) q))

all_items : {I : Type 0} (f : I → List Declaration) → ((left : List Declaration) (item : I) → NoFault left (f item) → AllClear left (f item)) →
    (left : List Declaration) (items : List I) → NoFault left (flat_map f items) → AllClear left (flat_map f items)
all_items f one left [] n = tt
all_items f one left (item ∷ items) n =
    let parts = no_fault_parts left (f item) (flat_map f items) n in
    clear_append left (f item) (flat_map f items) (one left item parts.0) (all_items f one (left ++ f item) items parts.1)

not_false : (b : Bool) → not b ≡ false → b ≡ true
not_false true e = refl
not_false false e = absurd cc

-- ---- sorts

names_clear : (left : List Declaration) (names : List (List ℕ)) → NoFault left (map Sort names) → AllClear left (map Sort names)
names_clear left [] n = tt
names_clear left (name ∷ names) n =
    let first = no_fault_first left (Sort name) (map Sort names) n in
    (first.0, names_clear (left ++ Sort name ∷ []) names (no_fault_rest left (Sort name) (map Sort names) n))

chain_clear : (left : List Declaration) (upper : List ℕ) (chain : List (List ℕ)) → is_sort left upper ≡ true → NoFault left (chain_behind upper chain) → AllClear left (chain_behind upper chain)
chain_clear left upper [] known n = tt
chain_clear left upper (lower ∷ chain) known n =
    let link = left ++ Link lower ∷ [] in
    let pair = link ++ Subsort upper lower ∷ [] in
    let rest = no_fault_rest left (Link lower) (Subsort upper lower ∷ chain_behind lower chain) n in
    let first = no_fault_first link (Subsort upper lower) (chain_behind lower chain) rest in
    let here : is_sort link lower ≡ true = known_link left lower in
    let clear : IsClearPair link upper lower = record { upper_known = known_more left (Link lower) upper known; lower_known = here; apart = first.2 } in
    (tt, (clear, chain_clear pair lower chain (known_more link (Subsort upper lower) lower here) (no_fault_rest link (Subsort upper lower) (chain_behind lower chain) rest)))

sort_item_clear : (left : List Declaration) (item : PlainSortItem) → NoFault left (sort_declarations item) → AllClear left (sort_declarations item)
sort_item_clear left (trees.Names names) n = names_clear left names n
sort_item_clear left (trees.Chain []) n = tt
sort_item_clear left (trees.Chain (first ∷ chain)) n =
    (tt, chain_clear (left ++ Link first ∷ []) first chain (known_link left first) (no_fault_rest left (Link first) (chain_behind first chain) n))

-- ---- objects and variables

numbers_clear : (left : List Declaration) (sort : List ℕ) (values : List ℕ) → is_sort left sort ≡ true → AllClear left (map (λ value. Number value sort) values)
numbers_clear left sort [] known = tt
numbers_clear left sort (value ∷ values) known =
    (known, numbers_clear (left ++ Number value sort ∷ []) sort values (known_more left (Number value sort) sort known))

member_clear : (sort : List ℕ) (left : List Declaration) (member : PlainMember) → NoFault left (member_declarations sort member) → AllClear left (member_declarations sort member)
member_clear sort left (trees.Name name) n =
    let first = no_fault_first left (Object name sort) [] n in
    let clear : IsClearName left name sort = record { is_new = first.0; sort_known = not_false (is_sort left sort) first.1 } in
    (clear, tt)
member_clear sort left (trees.Numbers low high) n =
    let first = no_fault_first left (Span low high sort) (map (λ (value : ℕ). Number value sort) (from_to low high)) n in
    (tt, numbers_clear (left ++ Span low high sort ∷ []) sort (from_to low high) (known_more left (Span low high sort) sort (not_false (is_sort left sort) first.1)))

variables_clear : (left : List Declaration) (names : List (List ℕ)) (sort : List ℕ) → NoFault left (map (λ name. Variable name sort) names) → AllClear left (map (λ name. Variable name sort) names)
variables_clear left [] sort n = tt
variables_clear left (name ∷ names) sort n =
    let rest = map (λ (name : List ℕ). Variable name sort) names in
    let first = no_fault_first left (Variable name sort) rest n in
    let clear : IsClearName left name sort = record { is_new = first.0; sort_known = not_false (is_sort left sort) first.1 } in
    (clear, variables_clear (left ++ Variable name sort ∷ []) names sort (no_fault_rest left (Variable name sort) rest n))

-- ---- constants

-- a constant that is no plain one is not the action
action_before : (test : Declared → Bool) (cs : List Declared) (c : Declared) → is_plain c.kind ≡ false → is_boolean_action (find test (cs ++ c ∷ [])) ≡ true → is_boolean_action (find test cs) ≡ true
action_before test [] c p e = absurd (never (test c) c p e)
  where
    never : (here : Bool) (c : Declared) → is_plain c.kind ≡ false → is_boolean_action (cond here (Some c) None) ≡ true → ⊥
    never true c p e = let parts = and_true (is_plain c.kind) _ e in let q : is_plain c.kind ≡ true = parts.0 in absurd (cc (p, q))
    never false c p e = absurd cc
action_before test (d ∷ ds) c p e = step (test d) d ds c e (action_before test ds c p)
  where
    step : (here : Bool) (d : Declared) (ds : List Declared) (c : Declared) → is_boolean_action (cond here (Some d) (find test (ds ++ c ∷ []))) ≡ true →
        (is_boolean_action (find test (ds ++ c ∷ [])) ≡ true → is_boolean_action (find test ds) ≡ true) → is_boolean_action (cond here (Some d) (find test ds)) ≡ true
    step true d ds c e more = e
    step false d ds c e more = more e

action_named : (name : List ℕ) (cs : List Declared) → is_boolean_action (find (λ c. same_text name c.shape.name) cs) ≡ true → list_any (same_text name) (map (λ c. c.shape.name) cs) ≡ true
action_named name [] e = absurd cc
action_named name (c ∷ cs) e = step (same_text name c.shape.name) c cs e (action_named name cs)
  where
    step : (here : Bool) (c : Declared) (cs : List Declared) → is_boolean_action (cond here (Some c) (find (λ (c : Declared). same_text name c.shape.name) cs)) ≡ true →
        (is_boolean_action (find (λ (c : Declared). same_text name c.shape.name) cs) ≡ true → list_any (same_text name) (map (λ (c : Declared). c.shape.name) cs) ≡ true) →
        here || list_any (same_text name) (map (λ (c : Declared). c.shape.name) cs) ≡ true
    step true c cs e more = refl
    step false c cs e more = more e

abbrev of_kind : PlainKind → ℕ → ℕ → PlainShape → Declaration
of_kind kind file line shape = Constant shape kind file line

abbrev item_of : PlainKind → ℕ → ℕ → List PlainShape → List PlainShape → List Declaration
item_of kind file line shapes all = map (of_kind kind file line) shapes ++ Kinds all kind ∷ []

-- the sort of the values is known where the kind stands
values_known : (left : List Declaration) (kind : PlainKind) → has_unknown left kind ≡ false → is_sort left (value_sort kind) ≡ true
values_known left (trees.Plain word sort) e = not_false (is_sort left (value_sort (trees.Plain word sort))) e
values_known left (trees.Attribute sort action) e =
    (and_true (is_sort left sort) (are_sorts left action.sorts && is_taken left action.name)
    (not_false _ (not_middle (is_sort left sort) (is_taken left action.name) (is_sort left) action.sorts ∙ e))).0

value_before : (left : List Declaration) (kind : PlainKind) (file line : ℕ) (shapes all : List PlainShape) → NoFault left (item_of kind file line shapes all) → is_sort left (value_sort kind) ≡ true
value_before left kind file line [] all n = values_known left kind (no_fault_first left (Kinds all kind) [] n).1
value_before left kind file line (shape ∷ shapes) all n =
    let d = of_kind kind file line shape in
    let later : is_sort (left ++ d ∷ []) (value_sort kind) ≡ true = value_before (left ++ d ∷ []) kind file line shapes all (no_fault_rest left d (item_of kind file line shapes all) n) in
    ap (λ (w : List (List ℕ)). is_among w (value_sort kind)) (sym (names_same left d refl)) ∙ later

boolean_before : (left : List Declaration) (sort : List ℕ) (action : PlainShape) (file line : ℕ) (shapes all : List PlainShape) →
    NoFault left (item_of (trees.Attribute sort action) file line shapes all) → is_boolean_action (constant_named left action.name) ≡ true
boolean_before left sort action file line [] all n =
    let own = declared_sorts left action.name in
    (and_true (is_boolean_action (constant_named left action.name)) (same_sorts action.sorts own && list_all (λ (shape : PlainShape). same_sorts shape.sorts own) all)
    (not_false _
    (not_third (is_boolean_action (constant_named left action.name)) (same_sorts action.sorts own) (λ (shape : PlainShape). same_sorts shape.sorts own) all
    ∙ (no_fault_first left (Kinds all (trees.Attribute sort action)) [] n).2))).0
boolean_before left sort action file line (shape ∷ shapes) all n =
    let kind = trees.Attribute sort action in
    let d = of_kind kind file line shape in
    let c : Declared = record { shape = shape; kind = kind; file = file; line = line } in
    let test : Declared → Bool = λ c. same_text action.name c.shape.name in
    let later : is_boolean_action (constant_named (left ++ d ∷ []) action.name) ≡ true =
    boolean_before (left ++ d ∷ []) sort action file line shapes all (no_fault_rest left d (item_of kind file line shapes all) n) in
    let grown : constants (left ++ d ∷ []) ≡ constants left ++ c ∷ [] = flat_end constant_declared left d in
    action_before test (constants left) c refl (ap (λ (w : List Declared). is_boolean_action (find test w)) (sym grown) ∙ later)

action_known : (left : List Declaration) (kind : PlainKind) (file line : ℕ) (shapes all : List PlainShape) → NoFault left (item_of kind file line shapes all) → has_action (constant_names left) kind ≡ true
action_known left (trees.Plain word sort) file line shapes all n = refl
action_known left (trees.Attribute sort action) file line shapes all n =
    action_named action.name (constants left) (boolean_before left sort action file line shapes all n)

constants_clear : (left : List Declaration) (kind : PlainKind) (file line : ℕ) (shapes all : List PlainShape) → NoFault left (item_of kind file line shapes all) → AllClear left (item_of kind file line shapes all)
constants_clear left kind file line [] all n = (tt, tt)
constants_clear left kind file line (shape ∷ shapes) all n =
    let d = of_kind kind file line shape in
    let first = no_fault_first left d (item_of kind file line shapes all) n in
    let clear : IsClearConstant left shape kind = record {
      is_new = first.0;
      arguments_known = not_false (are_sorts left shape.sorts) (not_all (is_sort left) shape.sorts ∙ first.1);
      values_known = value_before left kind file line (shape ∷ shapes) all n;
      action_known = action_known left kind file line (shape ∷ shapes) all n;
    } in
    (clear, constants_clear (left ++ d ∷ []) kind file line shapes all (no_fault_rest left d (item_of kind file line shapes all) n))

-- ---- a statement

part_clear : (left : List Declaration) (file line : ℕ) (part : PlainPart) → NoFault left (part_declarations file line part) → AllClear left (part_declarations file line part)
part_clear left file line (trees.Sorts items) n = all_items sort_declarations sort_item_clear left items n
part_clear left file line (trees.Objects items) n = all_items object_declarations (λ l item m. all_items (member_declarations item.sort) (member_clear item.sort) l item.members m) left items n
part_clear left file line (trees.Variables items) n = all_items variable_declarations (λ l item m. variables_clear l item.names item.sort m) left items n
part_clear left file line (trees.Constants items) n = all_items (constant_declarations file line) (λ l item m. constants_clear l item.kind file line item.shapes item.shapes m) left items n
part_clear left file line (trees.Query items) n = tt
part_clear left file line (trees.Include name) n = tt
part_clear left file line (trees.Law law test) n = tt

pub all_clear : (left : List Declaration) (file : ℕ) (statement : PlainStatement) → declaration_fault left (declarations_of file statement) ≡ None → AllClear left (declarations_of file statement)
all_clear left file statement e = part_clear left file statement.line statement.part (no_fault left (declarations_of file statement) e)
