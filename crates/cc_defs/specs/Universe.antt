-- What formulas are about: the objects of each sort, the values of each symbol, and the ground constants.
use Rattle.std.specs.Prelude.{◌≡◌, ◌≤◌, length, ℕ, Bool, false, ◌==◌, ◌&&◌, nat_eq, List, [], ◌∷◌, ◌++◌, map, slice_get, slice_index_or, Option, Some, None, is_none}
use Rattle.std.specs.List.{AllByRecursion, IsDistinct}
use Rattle.cc_defs.specs.declared.signature.Const.{Const}
use Rattle.cc_defs.specs.declared.signature.Symbol.{Symbol}
use Rattle.cc_defs.specs.Declarations.{Declaration, members, numbers, sort_names, symbols, ground_fluents, ground_actions, is_action, numbers_where}
use Rattle.cc_defs.specs.Signatures.{none_value}

pub record Universe : Type 0 where
  -- the objects of each sort and of the sorts below it, in declared order
  pub sorts : List (List ℕ)
  -- the number that each object is, where it is one
  pub numbers : List (Option ℕ)
  pub symbols : List Symbol
  pub fluents : List Const
  pub actions : List Const

-- that of a list of declarations
abbrev pub universe : List Declaration → Universe
universe declarations = record {
  sorts = map (members declarations) (sort_names declarations);
  numbers = numbers declarations;
  symbols = symbols declarations;
  fluents = ground_fluents declarations;
  actions = ground_actions declarations;
}

-- the ground constants by number: the fluents, then the actions
abbrev pub constants_in : Universe → List Const
constants_in u = u.fluents ++ u.actions

-- two objects that are one number are one
abbrev pub AreOwnNumbers : List (Option ℕ) → Type 0
AreOwnNumbers numbers = (object other number : ℕ) → slice_get numbers object ≡ Some (Some number) → slice_get numbers other ≡ Some (Some number) → object ≡ other

-- The values of each ground constant are different, and so are the numbers of objects; `none` is no number.
pub record HaveOwnValues (u : Universe) : Type 0 where
  pub values : AllByRecursion (λ constant. IsDistinct nat_eq constant.domain) (constants_in u)
  pub numbers : AreOwnNumbers u.numbers
  pub few : length u.numbers ≤ none_value

abbrev pub objects_of : Universe → ℕ → List ℕ
objects_of u sort = slice_index_or u.sorts sort []

-- an attribute has the value `none` too
abbrev pub with_none : Option ℕ → List ℕ → List ℕ
with_none None objects = objects
with_none (Some action) objects = none_value ∷ objects

abbrev pub values_of_symbol : Universe → Option Symbol → List ℕ
values_of_symbol u None = []
values_of_symbol u (Some symbol) = with_none symbol.attribute (objects_of u symbol.domain)

-- the values of a symbol, in order
abbrev pub values_of : Universe → ℕ → List ℕ
values_of u symbol = values_of_symbol u (slice_get u.symbols symbol)

-- Boolean: of the sort `boolean`, which is sort 0, and no attribute
abbrev pub is_boolean_symbol : Option Symbol → Bool
is_boolean_symbol None = false
is_boolean_symbol (Some symbol) = is_none symbol.attribute && (symbol.domain == 0)

abbrev pub is_boolean_action : Universe → Const → Bool
is_boolean_action u constant = is_action constant.kind && is_boolean_symbol (slice_get u.symbols constant.symbol)

-- the numbers of the Boolean actions, in order
abbrev pub boolean_actions : Universe → List ℕ
boolean_actions u = numbers_where (is_boolean_action u) 0 (constants_in u)
