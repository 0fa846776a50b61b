-- What a table becomes behind each declaration, and what a declaration without a fault is.
use Rattle.std.specs.Prelude.{◌≡◌, ℕ, decimal, Bool, true, false, nat_lt, IsTrue, List, [], ◌∷◌, ◌++◌, length, map, Option, Some, None}
use Rattle.cc_defs.specs.declared.signature.Symbol.{Symbol}
use Rattle.cc_defs.specs.declared.refusal.LimitAt.TheVariants as limits
use Rattle.cc_defs.specs.declared.refusal.Refusal.{Refusal}
use Rattle.cc_defs.specs.DeclarationFaults.{is_sort, are_sorts, is_taken, refusal_for, object_count, declaration_fault}
use Rattle.cc_defs.specs.Limits.{limit_number}
use Rattle.cc_defs.specs.Declarations.{Declaration, Sort, Link, Subsort, Object, Span, Number, Variable, Constant, Kinds, pairs, constant_names, is_below, number_in, kind_of_constant, value_sort}
use Rattle.cc_defs.specs.Trees.{PlainShape, PlainKind, PlainStatement}
use Rattle.cc_defs.specs.Trees as trees
use Rattle.cc_sorts.specs.declared.table.Placed.{Placed}
use Rattle.cc_sorts.specs.Dictionaries.{number_of, names_of}
use Rattle.cc_sorts.specs.SortViews.{SortsView, name_at, with_sort, with_pair, with_implied, with_object}
use Rattle.cc_sorts.specs.Tables.{TableView, symbol_names, has_action}

-- ---- a table behind a declaration. What is there already, or names what is not there, changes nothing.

abbrev pub with_sorts : TableView → SortsView → TableView
with_sorts table sorts = record {
  sorts = sorts;
  puts = table.puts;
  objects = table.objects;
  numbers = table.numbers;
  variables = table.variables;
  symbols = table.symbols;
}

abbrev pub new_sort : TableView → List ℕ → Option ℕ → TableView
new_sort table name (Some number) = table
new_sort table name None = with_sorts table (with_sort table.sorts name)

abbrev pub put_sort : TableView → List ℕ → TableView
put_sort table name = new_sort table name (number_of table.sorts.names name)

-- whether the upper sort is below the lower one, and whether the lower one is below the upper one
abbrev pub new_pair : TableView → ℕ → ℕ → Bool → Bool → TableView
new_pair table upper lower true implied = table
new_pair table upper lower false true = with_sorts table (with_implied table.sorts upper lower)
new_pair table upper lower false false = with_sorts table (with_pair table.sorts upper lower)

abbrev pub found_pair : TableView → Option ℕ → Option ℕ → TableView
found_pair table (Some upper) (Some lower) =
    new_pair table upper lower (is_below table.sorts.pairs (name_at table.sorts upper) (name_at table.sorts lower))
    (is_below table.sorts.pairs (name_at table.sorts lower) (name_at table.sorts upper))
found_pair table (Some upper) None = table
found_pair table None lower = table

abbrev pub put_pair : TableView → List ℕ → List ℕ → TableView
put_pair table upper lower = found_pair table (number_of table.sorts.names upper) (number_of table.sorts.names lower)

-- an object is put into a sort
abbrev pub new_put : TableView → ℕ → ℕ → Option ℕ → TableView
new_put table object sort number = record {
  sorts = with_object table.sorts sort (length table.puts);
  puts = table.puts ++ record { object = object; sort = sort; number = number } ∷ [];
  objects = table.objects;
  numbers = table.numbers;
  variables = table.variables;
  symbols = table.symbols;
}

-- an object has a name
abbrev pub with_named : TableView → List ℕ → ℕ → Option ℕ → TableView
with_named table name sort number = record {
  sorts = table.sorts;
  puts = table.puts;
  objects = table.objects ++ (name, sort) ∷ [];
  numbers = table.numbers ++ number ∷ [];
  variables = table.variables;
  symbols = table.symbols;
}

abbrev pub new_object : TableView → List ℕ → ℕ → Option ℕ → TableView
new_object table name sort number = new_put (with_named table name sort number) (length table.objects) sort number

abbrev pub found_object : TableView → List ℕ → Option ℕ → Option ℕ → Option ℕ → TableView
found_object table name number (Some sort) None = new_object table name sort number
found_object table name number (Some sort) (Some object) = new_put table object sort number
found_object table name number None object = table

abbrev pub put_object : TableView → List ℕ → List ℕ → Option ℕ → TableView
put_object table name sort number = found_object table name number (number_of table.sorts.names sort) (number_of (names_of table.objects) name)

abbrev pub new_variable : TableView → List ℕ → ℕ → TableView
new_variable table name sort = record {
  sorts = table.sorts;
  puts = table.puts;
  objects = table.objects;
  numbers = table.numbers;
  variables = table.variables ++ (name, sort) ∷ [];
  symbols = table.symbols;
}

abbrev pub found_variable : TableView → List ℕ → Option ℕ → Option ℕ → TableView
found_variable table name (Some sort) None = new_variable table name sort
found_variable table name (Some sort) (Some number) = table
found_variable table name None number = table

abbrev pub put_variable : TableView → List ℕ → List ℕ → TableView
put_variable table name sort = found_variable table name (number_of table.sorts.names sort) (number_of (names_of table.variables) name)

abbrev pub action_in : List (List ℕ) → PlainKind → Option ℕ
action_in names (trees.Plain word sort) = None
action_in names (trees.Attribute sort action) = Some (number_in names action.name)

-- a symbol by the names of the sorts and of the constants
abbrev pub symbol_in : List (List ℕ) → List (List ℕ) → PlainShape → PlainKind → Symbol
symbol_in names constants shape kind = record {
  name = shape.name;
  sorts = map (number_in names) shape.sorts;
  kind = kind_of_constant kind;
  domain = number_in names (value_sort kind);
  attribute = action_in constants kind;
}

abbrev pub placed_in : TableView → PlainShape → PlainKind → ℕ → ℕ → Placed
placed_in table shape kind file line = record {
  symbol = symbol_in table.sorts.names (symbol_names table) shape kind;
  file = file;
  line = line;
}

abbrev pub new_symbol : TableView → Placed → TableView
new_symbol table placed = record {
  sorts = table.sorts;
  puts = table.puts;
  objects = table.objects;
  numbers = table.numbers;
  variables = table.variables;
  symbols = table.symbols ++ placed ∷ [];
}

abbrev pub found_symbol : TableView → Placed → Option ℕ → TableView
found_symbol table placed None = new_symbol table placed
found_symbol table placed (Some number) = table

abbrev pub put_symbol : TableView → PlainShape → PlainKind → ℕ → ℕ → TableView
put_symbol table shape kind file line =
    found_symbol table (placed_in table shape kind file line) (number_of (symbol_names table) shape.name)

abbrev pub behind : TableView → Declaration → TableView
behind table (Sort name) = put_sort table name
behind table (Link name) = put_sort table name
behind table (Subsort upper lower) = put_pair table upper lower
behind table (Object name sort) = put_object table name sort None
behind table (Span low high sort) = table
behind table (Number value sort) = put_object table (decimal value) sort (Some value)
behind table (Variable name sort) = put_variable table name sort
behind table (Constant shape kind file line) = put_symbol table shape kind file line
behind table (Kinds shapes kind) = table

abbrev pub behind_all : TableView → List Declaration → TableView
behind_all table [] = table
behind_all table (declaration ∷ declarations) = behind_all (behind table declaration) declarations

-- the table is that behind a front of the declarations
pub record IsFrontOf (old : TableView) (declarations : List Declaration) (new : TableView) : Type 0 where
  pub front : List Declaration
  pub rest : List Declaration
  pub whole : declarations ≡ front ++ rest
  pub is_behind : new ≡ behind_all old front

-- ---- a declaration without a fault, of whose sorts and action all are declared

pub record IsClearPair (left : List Declaration) (upper lower : List ℕ) : Type 0 where
  pub upper_known : IsTrue (is_sort left upper)
  pub lower_known : IsTrue (is_sort left lower)
  pub apart : is_below (pairs left) upper lower ≡ false

pub record IsClearName (left : List Declaration) (name sort : List ℕ) : Type 0 where
  pub is_new : is_taken left name ≡ false
  pub sort_known : IsTrue (is_sort left sort)

pub record IsClearConstant (left : List Declaration) (shape : PlainShape) (kind : PlainKind) : Type 0 where
  pub is_new : is_taken left shape.name ≡ false
  pub arguments_known : IsTrue (are_sorts left shape.sorts)
  pub values_known : IsTrue (is_sort left (value_sort kind))
  pub action_known : IsTrue (has_action (constant_names left) kind)

abbrev pub IsClear : List Declaration → Declaration → Type 0
IsClear left (Sort name) = is_sort left name ≡ false
IsClear left (Link name) = Unit {0}
IsClear left (Subsort upper lower) = IsClearPair left upper lower
IsClear left (Object name sort) = IsClearName left name sort
IsClear left (Span low high sort) = Unit {0}
IsClear left (Number value sort) = IsTrue (is_sort left sort)
IsClear left (Variable name sort) = IsClearName left name sort
IsClear left (Constant shape kind file line) = IsClearConstant left shape kind
IsClear left (Kinds shapes kind) = Unit {0}

abbrev pub AllClear : List Declaration → List Declaration → Type 0
AllClear left [] = Unit {0}
AllClear left (declaration ∷ declarations) = IsClear left declaration × AllClear (left ++ declaration ∷ []) declarations

-- the refusal of new declarations behind others
abbrev pub judged_refusal : ℕ → ℕ → List Declaration → List Declaration → Option Refusal
judged_refusal file line left new =
    refusal_for file line (nat_lt (limit_number limits.Objects) (object_count (left ++ new))) (declaration_fault left new)
