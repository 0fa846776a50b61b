-- What the names of a description mean, as far as it has been read.
use Rattle.std.specs.Prelude.{ℕ, Bool, true, false, not, ◌&&◌, ◌||◌, ◌==◌, nat_lt, if◌then◌else◌, List, [], map, length, codes, slice_get, slice_index_or, Option, Some, None}
use Rattle.cc_defs.specs.declared.signature.Kind.{Kind}
use Rattle.cc_defs.specs.declared.signature.Kind.TheVariants as kinds
use Rattle.cc_defs.specs.declared.signature.Symbol.{Symbol}
use Rattle.cc_defs.specs.Grammar.{same_text}
use Rattle.cc_defs.specs.Declarations.{Declaration, Pair, sort_names, pairs, is_below, objects, variables, symbols, is_action}
use Rattle.cc_defs.specs.Universe.{is_boolean_symbol}
use Rattle.cc_sorts.specs.Dictionaries.{number_of, names_of, values_of}
use Rattle.cc_sorts.specs.Tables.{TableView, Numbered, numbered}

-- what is declared, each by its number: objects and variables with the numbers of their sorts
pub record Vocabulary : Type 0 where
  pub sorts : List (List ℕ)
  pub pairs : List Pair
  pub objects : List Numbered
  pub variables : List Numbered
  pub symbols : List Symbol

-- what these declarations declare
abbrev pub vocabulary : List Declaration → Vocabulary
vocabulary declarations = record {
  sorts = sort_names declarations;
  pairs = pairs declarations;
  objects = numbered declarations (objects declarations);
  variables = numbered declarations (variables declarations);
  symbols = symbols declarations;
}

-- what is in a table
abbrev pub vocabulary_of : TableView → Vocabulary
vocabulary_of table = record {
  sorts = table.sorts.names;
  pairs = table.sorts.pairs;
  objects = table.objects;
  variables = table.variables;
  symbols = map (λ placed. placed.symbol) table.symbols;
}

-- What a name means: nothing that is declared; `none`; an object or a variable, with its number and its sort; a constant.
pub data Meaning : Type 0 where
  Unknown : Meaning
  Nothing : Meaning
  Object : (number sort : ℕ) → Meaning
  Variable : (number sort : ℕ) → Meaning
  Constant : (number : ℕ) → (symbol : Symbol) → Meaning

abbrev pub sort_of_entry : List Numbered → ℕ → ℕ
sort_of_entry entries number = slice_index_or (values_of entries) number 0

abbrev pub constant_at : ℕ → Option Symbol → Meaning
constant_at number (Some symbol) = Constant number symbol
constant_at number None = Unknown

abbrev pub as_constant : Vocabulary → Option ℕ → Meaning
as_constant v (Some number) = constant_at number (slice_get v.symbols number)
as_constant v None = Unknown

abbrev pub as_variable : Vocabulary → List ℕ → Option ℕ → Meaning
as_variable v name (Some number) = Variable number (sort_of_entry v.variables number)
as_variable v name None = as_constant v (number_of (map (λ symbol. symbol.name) v.symbols) name)

abbrev pub as_object : Vocabulary → List ℕ → Option ℕ → Meaning
as_object v name (Some number) = Object number (sort_of_entry v.objects number)
as_object v name None = as_variable v name (number_of (names_of v.variables) name)

-- objects, variables and constants share one set of names
abbrev pub meaning : Vocabulary → List ℕ → Meaning
meaning v name = if same_text name (codes "none") then Nothing else as_object v name (number_of (names_of v.objects) name)

-- the same sort or below it
abbrev pub sort_below : Vocabulary → ℕ → ℕ → Bool
sort_below v lower upper =
    nat_lt lower (length v.sorts) && (nat_lt upper (length v.sorts) && is_below v.pairs (slice_index_or v.sorts lower []) (slice_index_or v.sorts upper []))

-- ---- kinds of names

abbrev pub is_unknown : Meaning → Bool
is_unknown Unknown = true
is_unknown meaning = false

abbrev pub is_constant : Meaning → Bool
is_constant (Constant number symbol) = true
is_constant meaning = false

abbrev pub is_determined_kind : Kind → Bool
is_determined_kind kinds.Determined = true
is_determined_kind kind = false

abbrev pub is_action_constant : Meaning → Bool
is_action_constant (Constant number symbol) = is_action symbol.kind
is_action_constant meaning = false

abbrev pub is_fluent_constant : Meaning → Bool
is_fluent_constant (Constant number symbol) = not (is_action symbol.kind)
is_fluent_constant meaning = false

-- a statically determined fluent
abbrev pub is_determined_constant : Meaning → Bool
is_determined_constant (Constant number symbol) = is_determined_kind symbol.kind
is_determined_constant meaning = false

abbrev pub is_boolean_constant : Meaning → Bool
is_boolean_constant (Constant number symbol) = is_boolean_symbol (Some symbol)
is_boolean_constant meaning = false

-- `true` or `false`: these are the objects 0 and 1
abbrev pub is_truth_value : Meaning → Bool
is_truth_value (Object number sort) = (number == 0) || (number == 1)
is_truth_value meaning = false

-- `false`
abbrev pub is_falsity : Meaning → Bool
is_falsity (Object number sort) = number == 0
is_falsity meaning = false
