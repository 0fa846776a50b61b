-- What statements declare: sorts, objects, variables and constants, as filters of a list of single declarations.
use Rattle.std.specs.Prelude.{ℕ, zero, suc, ◌+◌, ◌-◌, ◌==◌, decimal, Bool, true, false, not, ◌&&◌, ◌||◌, if◌then◌else◌, List, [], ◌∷◌, ◌++◌, map, flat_map, reverse, codes, position, unwrap_or, slice_get, Option, Some, None}
use Rattle.std.specs.List.{list_any, filter}
use Rattle.cc_defs.specs.declared.signature.Const.{Const}
use Rattle.cc_defs.specs.declared.signature.Kind.{Kind}
use Rattle.cc_defs.specs.declared.signature.Kind.TheVariants as kinds
use Rattle.cc_defs.specs.declared.signature.Symbol.{Symbol}
use Rattle.cc_defs.specs.declared.tree.KindWord.{KindWord}
use Rattle.cc_defs.specs.declared.tree.KindWord.TheVariants as kind_words
use Rattle.cc_defs.specs.Trees.{PlainShape, PlainSortItem, PlainListItem, PlainMember, PlainObjItem, PlainKind, PlainConstItem, PlainPart, PlainStatement}
use Rattle.cc_defs.specs.Trees as trees
use Rattle.cc_defs.specs.Grammar.{same_text}
use Rattle.cc_defs.specs.Signatures.{none_value}

-- 0, 1, .., n - 1
abbrev pub upto : ℕ → List ℕ
upto zero = []
upto (suc n) = upto n ++ n ∷ []

-- one declaration, a constant's with the place of its statement. The kind of constants stands behind their shapes, so that
-- their names are to its left.
pub data Declaration : Type 0 where
  Sort : (name : List ℕ) → Declaration
  Link : (name : List ℕ) → Declaration
  Subsort : (upper lower : List ℕ) → Declaration
  Object : (name sort : List ℕ) → Declaration
  -- `low..high :: sort`, judged as a whole; the numbers themselves stand behind it one by one
  Span : (low high : ℕ) → (sort : List ℕ) → Declaration
  Number : (value : ℕ) → (sort : List ℕ) → Declaration
  Variable : (name sort : List ℕ) → Declaration
  Constant : PlainShape → PlainKind → (file line : ℕ) → Declaration
  Kinds : List PlainShape → PlainKind → Declaration

-- ---- the declarations of a statement, in the order of its text

abbrev pub chain_behind : List ℕ → List (List ℕ) → List Declaration
chain_behind upper [] = []
chain_behind upper (lower ∷ chain) = Link lower ∷ Subsort upper lower ∷ chain_behind lower chain

abbrev pub sort_declarations : PlainSortItem → List Declaration
sort_declarations (trees.Names names) = map Sort names
sort_declarations (trees.Chain []) = []
sort_declarations (trees.Chain (first ∷ chain)) = Link first ∷ chain_behind first chain

-- from the one to the other, none where the second is less
abbrev pub from_to : ℕ → ℕ → List ℕ
from_to low high = map (λ more. low + more) (upto (high + 1 - low))

abbrev pub member_declarations : List ℕ → PlainMember → List Declaration
member_declarations sort (trees.Name name) = Object name sort ∷ []
member_declarations sort (trees.Numbers low high) = Span low high sort ∷ map (λ value. Number value sort) (from_to low high)

abbrev pub object_declarations : PlainObjItem → List Declaration
object_declarations item = flat_map (member_declarations item.sort) item.members

abbrev pub variable_declarations : PlainListItem → List Declaration
variable_declarations item = map (λ name. Variable name item.sort) item.names

abbrev pub constant_declarations : ℕ → ℕ → PlainConstItem → List Declaration
constant_declarations file line item = map (λ shape. Constant shape item.kind file line) item.shapes ++ Kinds item.shapes item.kind ∷ []

abbrev pub part_declarations : ℕ → ℕ → PlainPart → List Declaration
part_declarations file line (trees.Sorts items) = flat_map sort_declarations items
part_declarations file line (trees.Objects items) = flat_map object_declarations items
part_declarations file line (trees.Variables items) = flat_map variable_declarations items
part_declarations file line (trees.Constants items) = flat_map (constant_declarations file line) items
part_declarations file line part = []

-- the declarations of a statement of a file
abbrev pub declarations_of : ℕ → PlainStatement → List Declaration
declarations_of file statement = part_declarations file statement.line statement.part

-- ---- sorts

abbrev pub boolean : List ℕ
boolean = codes "boolean"

-- each name at its first place
abbrev pub firsts_behind : List (List ℕ) → List (List ℕ) → List (List ℕ)
firsts_behind seen [] = []
firsts_behind seen (name ∷ names) =
    if list_any (same_text name) seen then firsts_behind seen names else name ∷ firsts_behind (name ∷ seen) names

abbrev pub sort_named : Declaration → List (List ℕ)
sort_named (Sort name) = name ∷ []
sort_named (Link name) = name ∷ []
sort_named declaration = []

-- the names of the sorts, by number; `boolean` is there from the beginning
abbrev pub sort_names : List Declaration → List (List ℕ)
sort_names declarations = firsts_behind [] (boolean ∷ flat_map sort_named declarations)

-- an upper and a lower sort
abbrev pub Pair : Type 0
Pair = List ℕ × List ℕ

abbrev pub pair_declared : Declaration → List Pair
pair_declared (Subsort upper lower) = (upper, lower) ∷ []
pair_declared declaration = []

-- the pairs, the last first
abbrev pub pairs : List Declaration → List Pair
pairs declarations = reverse (flat_map pair_declared declarations)

-- The same sort or below it, by these pairs: below it by the pairs after the first, or by way of the first.
abbrev pub is_below : List Pair → List ℕ → List ℕ → Bool
is_below [] lower upper = same_text lower upper
is_below (pair ∷ pairs) lower upper = is_below pairs lower upper || (is_below pairs lower pair.1 && is_below pairs pair.0 upper)

-- ---- what is put into sorts, and variables

abbrev pub Named : Type 0
Named = List ℕ × List ℕ

-- what is put into a sort: a name, or a number by its digits
pub record Put : Type 0 where
  pub name : List ℕ
  pub number : Option ℕ
  pub sort : List ℕ

abbrev pub named_put : List ℕ → List ℕ → Put
named_put name sort = record { name = name; number = None; sort = sort }

abbrev pub put_declared : Declaration → List Put
put_declared (Object name sort) = named_put name sort ∷ []
put_declared (Number value sort) = record { name = decimal value; number = Some value; sort = sort } ∷ []
put_declared declaration = []

-- in the order of the text; `false` and `true` are there from the beginning
abbrev pub puts : List Declaration → List Put
puts declarations = named_put (codes "false") boolean ∷ named_put (codes "true") boolean ∷ flat_map put_declared declarations

-- each object at its first put: a number that is put more than once is one object
abbrev pub first_puts_behind : List (List ℕ) → List Put → List Put
first_puts_behind seen [] = []
first_puts_behind seen (put ∷ others) =
    if list_any (same_text put.name) seen then first_puts_behind seen others else put ∷ first_puts_behind (put.name ∷ seen) others

abbrev pub first_puts : List Declaration → List Put
first_puts declarations = first_puts_behind [] (puts declarations)

-- the objects, by number, each with the sort of its first put
abbrev pub objects : List Declaration → List Named
objects declarations = map (λ put. (put.name, put.sort)) (first_puts declarations)

-- the number that each object is, where it is one
abbrev pub numbers : List Declaration → List (Option ℕ)
numbers declarations = map (λ put. put.number) (first_puts declarations)

abbrev pub variable_declared : Declaration → List Named
variable_declared (Variable name sort) = (name, sort) ∷ []
variable_declared declaration = []

abbrev pub variables : List Declaration → List Named
variables declarations = flat_map variable_declared declarations

-- ---- constants

pub record Declared : Type 0 where
  pub shape : PlainShape
  pub kind : PlainKind
  pub file : ℕ
  pub line : ℕ

abbrev pub constant_declared : Declaration → List Declared
constant_declared (Constant shape kind file line) = record { shape = shape; kind = kind; file = file; line = line } ∷ []
constant_declared declaration = []

abbrev pub constants : List Declaration → List Declared
constants declarations = flat_map constant_declared declarations

abbrev pub kind_of_word : KindWord → Kind
kind_of_word kind_words.Simple = kinds.Simple
kind_of_word kind_words.Inertial = kinds.Simple
kind_of_word kind_words.Determined = kinds.Determined
kind_of_word kind_words.Rigid = kinds.Simple
kind_of_word kind_words.Action = kinds.Action
kind_of_word kind_words.ExogenousAction = kinds.Action

-- an attribute is an action
abbrev pub kind_of_constant : PlainKind → Kind
kind_of_constant (trees.Plain word sort) = kind_of_word word
kind_of_constant (trees.Attribute sort action) = kinds.Action

-- a kind without a sort has the sort `boolean`
abbrev pub value_sort : PlainKind → List ℕ
value_sort (trees.Plain word sort) = unwrap_or sort boolean
value_sort (trees.Attribute sort action) = sort

abbrev pub number_in : List (List ℕ) → List ℕ → ℕ
number_in names name = unwrap_or (position (same_text name) names) 0

abbrev pub constant_names : List Declaration → List (List ℕ)
constant_names declarations = map (λ constant. constant.shape.name) (constants declarations)

abbrev pub action_of : List Declaration → PlainKind → Option ℕ
action_of declarations (trees.Plain word sort) = None
action_of declarations (trees.Attribute sort action) = Some (number_in (constant_names declarations) action.name)

abbrev pub symbol_of : List Declaration → Declared → Symbol
symbol_of declarations constant = record {
  name = constant.shape.name;
  sorts = map (number_in (sort_names declarations)) constant.shape.sorts;
  kind = kind_of_constant constant.kind;
  domain = number_in (sort_names declarations) (value_sort constant.kind);
  attribute = action_of declarations constant.kind;
}

-- the symbols, by number
abbrev pub symbols : List Declaration → List Symbol
symbols declarations = map (symbol_of declarations) (constants declarations)

-- ---- what sorts and constants have

-- the numbers, from the first one on, of the items that pass the test
abbrev pub numbers_where : {X : Type 0} → (X → Bool) → ℕ → List X → List ℕ
numbers_where test number [] = []
numbers_where test number (x ∷ xs) = if test x then number ∷ numbers_where test (number + 1) xs else numbers_where test (number + 1) xs

-- the object that is put by the put of this number
abbrev pub object_of : List Put → Option Put → ℕ
object_of firsts (Some put) = unwrap_or (position (λ other. same_text put.name other.name) firsts) 0
object_of firsts None = 0

abbrev pub object_at : List Declaration → ℕ → ℕ
object_at declarations number = object_of (first_puts declarations) (slice_get (puts declarations) number)

-- the numbers of the puts into a sort and into all sorts below it, in the order of the text
abbrev pub placed : List Declaration → List ℕ → List ℕ
placed declarations sort = numbers_where (λ put. is_below (pairs declarations) put.sort sort) 0 (puts declarations)

-- each number at its first place
abbrev pub firsts : List ℕ → List ℕ
firsts [] = []
firsts (number ∷ numbers) = number ∷ filter (λ other. not (other == number)) (firsts numbers)

-- the objects of a sort and of all sorts below it, in the order in which they are put, each at its first place
abbrev pub members : List Declaration → List ℕ → List ℕ
members declarations sort = firsts (map (object_at declarations) (placed declarations sort))

-- the values of a constant, in order
abbrev pub domain_of : List Declaration → PlainKind → List ℕ
domain_of declarations (trees.Plain word sort) = members declarations (value_sort (trees.Plain word sort))
domain_of declarations (trees.Attribute sort action) = none_value ∷ members declarations sort

-- all lists of arguments, those with an earlier first argument first
abbrev pub instances : List Declaration → List (List ℕ) → List (List ℕ)
instances declarations [] = [] ∷ []
instances declarations (sort ∷ sorts) =
    flat_map (λ object. map (λ args. object ∷ args) (instances declarations sorts)) (members declarations sort)

abbrev pub ground_of : List Declaration → ℕ → Declared → List Const
ground_of declarations number constant = map (λ args. record {
  symbol = number;
  args = args;
  kind = kind_of_constant constant.kind;
  domain = domain_of declarations constant.kind;
}) (instances declarations constant.shape.sorts)

abbrev pub ground_from : List Declaration → (Kind → Bool) → ℕ → List Declared → List Const
ground_from declarations passes number [] = []
ground_from declarations passes number (constant ∷ others) =
    (if passes (kind_of_constant constant.kind) then ground_of declarations number constant else [])
    ++ ground_from declarations passes (number + 1) others

abbrev pub is_action : Kind → Bool
is_action kinds.Action = true
is_action kind = false

-- the ground fluents and the ground actions, in order
abbrev pub ground_fluents : List Declaration → List Const
ground_fluents declarations = ground_from declarations (λ kind. not (is_action kind)) 0 (constants declarations)

abbrev pub ground_actions : List Declaration → List Const
ground_actions declarations = ground_from declarations is_action 0 (constants declarations)
