-- The faults of declarations, each judged by what is declared to its left, and of all of them together.
use Rattle.std.specs.Prelude.{ℕ, ◌+◌, ◌-◌, Bool, true, false, ◌&&◌, ◌||◌, ◌==◌, not, nat_lt, if◌then◌else◌, List, [], ◌∷◌, ◌++◌, length, map, Option, Some, None, is_none}
use Rattle.std.specs.List.{list_any, list_all, find}
use Rattle.std.specs.Cmp.Lexicographic.{pointwise}
use Rattle.cc_defs.specs.declared.refusal.LimitAt.{LimitAt}
use Rattle.cc_defs.specs.declared.refusal.LimitAt.TheVariants as limits
use Rattle.cc_defs.specs.declared.refusal.Refusal.{Refusal}
use Rattle.cc_defs.specs.declared.signature.Const.{Const}
use Rattle.cc_defs.specs.declared.signature.Kind.{Kind}
use Rattle.cc_defs.specs.Limits.{limit_number}
use Rattle.cc_defs.specs.Refusals.{refused, past_at, past, least}
use Rattle.cc_defs.specs.Trees.{PlainShape, PlainKind, PlainStatement}
use Rattle.cc_defs.specs.Trees as trees
use Rattle.cc_defs.specs.Grammar.{same_text}
use Rattle.cc_defs.specs.Declarations.{Declaration, Sort, Link, Subsort, Object, Span, Number, Put, puts, Variable, Constant, Kinds, Declared, Pair, declarations_of, boolean, sort_names, pairs, is_below, variables, constants, constant_names, value_sort, kind_of_constant, is_action, ground_of, ground_fluents, ground_actions}

abbrev pub is_sort : List Declaration → List ℕ → Bool
is_sort left name = list_any (same_text name) (sort_names left)

-- objects, variables and constants share one set of names
abbrev pub is_taken : List Declaration → List ℕ → Bool
is_taken left name =
    list_any (λ put. is_none put.number && same_text name put.name) (puts left) || (list_any (λ variable. same_text name variable.0) (variables left) || list_any (same_text name) (constant_names left))

abbrev pub same_pair : Pair → Pair → Bool
same_pair pair other = same_text pair.0 other.0 && same_text pair.1 other.1

-- a number was put into the sort itself
abbrev pub is_that : ℕ → Option ℕ → Bool
is_that value (Some number) = number == value
is_that value None = false

abbrev pub has_put : ℕ → List ℕ → Put → Bool
has_put value sort put = is_that value put.number && same_text sort put.sort

-- 4: the name is taken, the pair is there already, or the number is in the sort already
abbrev pub is_twice : List Declaration → Declaration → Bool
is_twice left (Sort name) = is_sort left name
is_twice left (Link name) = false
is_twice left (Subsort upper lower) = list_any (same_pair (upper, lower)) (pairs left)
is_twice left (Object name sort) = is_taken left name
is_twice left (Span low high sort) = false
is_twice left (Number value sort) = list_any (has_put value sort) (puts left)
is_twice left (Variable name sort) = is_taken left name
is_twice left (Constant shape kind file line) = is_taken left shape.name
is_twice left (Kinds shapes kind) = false

abbrev pub are_sorts : List Declaration → List (List ℕ) → Bool
are_sorts left names = list_all (is_sort left) names

abbrev pub lacks_sort : List Declaration → List ℕ → Bool
lacks_sort left name = not (is_sort left name)

abbrev pub lacks_any : List Declaration → List (List ℕ) → Bool
lacks_any left names = list_any (lacks_sort left) names

abbrev pub has_unknown : List Declaration → PlainKind → Bool
has_unknown left (trees.Plain word sort) = lacks_sort left (value_sort (trees.Plain word sort))
has_unknown left (trees.Attribute sort action) = lacks_sort left sort || (lacks_any left action.sorts || not (is_taken left action.name))

-- 5: a sort, or the action of an attribute, is not declared
abbrev pub is_unknown : List Declaration → Declaration → Bool
is_unknown left (Object name sort) = lacks_sort left sort
is_unknown left (Span low high sort) = lacks_sort left sort
is_unknown left (Variable name sort) = lacks_sort left sort
is_unknown left (Constant shape kind file line) = lacks_any left shape.sorts
is_unknown left (Kinds shapes kind) = has_unknown left kind
is_unknown left declaration = false

abbrev pub constant_named : List Declaration → List ℕ → Option Declared
constant_named left name = find (λ constant. same_text name constant.shape.name) (constants left)

-- the sorts of a constant's arguments; objects and variables have none
abbrev pub sorts_of_constant : Option Declared → List (List ℕ)
sorts_of_constant None = []
sorts_of_constant (Some constant) = constant.shape.sorts

abbrev pub declared_sorts : List Declaration → List ℕ → List (List ℕ)
declared_sorts left name = sorts_of_constant (constant_named left name)

abbrev pub has_other_count : List Declaration → List PlainShape → PlainKind → Bool
has_other_count left shapes (trees.Plain word sort) = false
has_other_count left shapes (trees.Attribute sort action) =
    let count = length action.sorts
    in not (count == length (declared_sorts left action.name)) || list_any (λ shape. not (length shape.sorts == count)) shapes

-- 6: the action of an attribute has another number of arguments than its own declaration, or than the attribute
abbrev pub has_wrong_count : List Declaration → Declaration → Bool
has_wrong_count left (Kinds shapes kind) = has_other_count left shapes kind
has_wrong_count left declaration = false

abbrev pub is_plain : PlainKind → Bool
is_plain (trees.Plain word sort) = true
is_plain (trees.Attribute sort action) = false

abbrev pub is_boolean_action : Option Declared → Bool
is_boolean_action None = false
is_boolean_action (Some constant) =
    is_plain constant.kind && (is_action (kind_of_constant constant.kind) && same_text (value_sort constant.kind) boolean)

abbrev pub same_sorts : List (List ℕ) → List (List ℕ) → Bool
same_sorts sorts others = pointwise same_text sorts others

abbrev pub has_other_sorts : List Declaration → List PlainShape → PlainKind → Bool
has_other_sorts left shapes (trees.Plain word sort) = false
has_other_sorts left shapes (trees.Attribute sort action) =
    let own = declared_sorts left action.name
    in not (is_boolean_action (constant_named left action.name))
    || (not (same_sorts action.sorts own) || list_any (λ shape. not (same_sorts shape.sorts own)) shapes)

-- 7: a sort would stand below itself; `boolean` in a chain; objects or numbers of `boolean`; a range whose end is before its
-- beginning; an attribute whose action is no Boolean
-- action, or that has arguments of other sorts
abbrev pub has_wrong_sort : List Declaration → Declaration → Bool
has_wrong_sort left (Link name) = same_text name boolean
has_wrong_sort left (Subsort upper lower) = is_below (pairs left) upper lower
has_wrong_sort left (Object name sort) = same_text sort boolean
has_wrong_sort left (Span low high sort) = same_text sort boolean || nat_lt high low
has_wrong_sort left (Kinds shapes kind) = has_other_sorts left shapes kind
has_wrong_sort left declaration = false

-- whether a declaration of a statement has the fault, behind those to its left
abbrev pub any_has : (List Declaration → Declaration → Bool) → List Declaration → List Declaration → Bool
any_has fault left [] = false
any_has fault left (declaration ∷ others) = fault left declaration || any_has fault (left ++ declaration ∷ []) others

-- the least number that has a fault in the statement
abbrev pub declaration_fault : List Declaration → List Declaration → Option ℕ
declaration_fault left new = least (
    (4, any_has is_twice left new)
    ∷ (5, any_has is_unknown left new)
    ∷ (6, any_has has_wrong_count left new)
    ∷ (7, any_has has_wrong_sort left new)
    ∷ [])

-- what is put into sorts counts: `false` and `true` do not
abbrev pub object_count : List Declaration → ℕ
object_count declarations = length (puts declarations) - 2

abbrev pub refusal_for : ℕ → ℕ → Bool → Option ℕ → Option Refusal
refusal_for file line many (Some number) = Some (refused number file line)
refusal_for file line true None = Some (past_at limits.Objects file line)
refusal_for file line false None = None

-- the refusal of a statement of declarations behind others, if there is one
abbrev pub declaration_refusal : ℕ → List Declaration → PlainStatement → Option Refusal
declaration_refusal file left statement =
    let new = declarations_of file statement
    in refusal_for file statement.line (nat_lt (limit_number limits.Objects) (object_count (left ++ new))) (declaration_fault left new)

-- ---- the whole description

abbrev pub ground_constants_of : List Declaration → List Const
ground_constants_of declarations = ground_fluents declarations ++ ground_actions declarations

abbrev pub is_empty : Const → Bool
is_empty constant = length constant.domain == 0

abbrev pub limit_refusal : LimitAt → Refusal
limit_refusal limit = past limit

abbrev pub passes_domain_values : List Const → Bool
passes_domain_values instances = list_any (λ constant. nat_lt (limit_number limits.DomainValues) (length constant.domain)) instances

abbrev pub count_refusal : List Const → Option Refusal
count_refusal instances =
    if passes_domain_values instances then Some (past limits.DomainValues)
    else (if nat_lt (limit_number limits.GroundConstants) (length instances) then Some (past limits.GroundConstants) else None)

-- the ground constants of declared ones, from this number on, each with its declaration
abbrev pub declared_from : List Declaration → (Kind → Bool) → ℕ → List Declared → List (Declared × Const)
declared_from declarations passes number [] = []
declared_from declarations passes number (constant ∷ others) =
    (if passes (kind_of_constant constant.kind) then map (λ instance. (constant, instance)) (ground_of declarations number constant) else [])
    ++ declared_from declarations passes (number + 1) others

-- all of them, as they stand in `ground_constants_of`
abbrev pub declared_ground : List Declaration → List (Declared × Const)
declared_ground declarations =
    declared_from declarations (λ kind. not (is_action kind)) 0 (constants declarations) ++ declared_from declarations is_action 0 (constants declarations)

-- 12: a ground constant has no value; the place is that of its declaration
abbrev pub empty_or : Option (Declared × Const) → Option Refusal → Option Refusal
empty_or (Some found) refusal = Some (refused 12 found.0.file found.0.line)
empty_or None refusal = refusal

-- the refusal of all declarations together, if there is one: the first ground constant without a value, or a limit
abbrev pub signature_refusal : List Declaration → Option Refusal
signature_refusal declarations =
    empty_or (find (λ found. is_empty found.1) (declared_ground declarations)) (count_refusal (ground_constants_of declarations))
