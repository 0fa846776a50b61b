-- What a table and a signature say of a description, and what the writing of a history asks of them and of the row.
use Rattle.std.specs.Prelude.{◌≡◌, ◌⊎◌, ℕ, ◌+◌, ◌-◌, ◌^◌, ◌<◌, List, [], ◌∷◌, length, map, take, drop, slice_index}
use Rattle.std.specs.List.{AllByRecursion}
use Rattle.cc_defs.specs.declared.signature.Const.{Const}
use Rattle.cc_defs.specs.Description.{Description}
use Rattle.cc_defs.specs.Signatures.{Signature, ground_constants, none_value}
use Rattle.cc_sorts.specs.Dictionaries.{names_of}
use Rattle.cc_sorts.specs.Tables.{TableView}

-- the description of a table and a signature, without laws
abbrev pub described : TableView → Signature → Description
described table signature = record {
  objects = names_of table.objects;
  universe = record {
    sorts = table.sorts.members;
    numbers = signature.numbers;
    symbols = map (λ placed. placed.symbol) table.symbols;
    fluents = signature.fluents;
    actions = signature.actions;
  };
  laws = [];
}

-- what names alone say of it
abbrev pub named_by : TableView → Description
named_by table = described table (record { fluents = []; actions = []; numbers = [] })

-- `none`, or an object of the table
abbrev pub IsNamedValue : TableView → ℕ → Type 0
IsNamedValue table value = (value ≡ none_value) ⊎ (value < length table.objects)

-- the constant's symbol, its arguments and its values have names
pub record IsNamed (table : TableView) (constant : Const) : Type 0 where
  pub symbol : constant.symbol < length table.symbols
  pub args : AllByRecursion (IsNamedValue table) constant.args
  pub domain : AllByRecursion (IsNamedValue table) constant.domain

-- what a table has names for, with few enough constants for their numbers
pub record AreNamed (table : TableView) (signature : Signature) : Type 0 where
  pub few : length signature.fluents + length signature.actions < 2 ^ 32
  pub fluents : AllByRecursion (IsNamed table) signature.fluents
  pub actions : AllByRecursion (IsNamed table) signature.actions

-- from a place of the row on, the constants have names, and the row has the index of a value for each
abbrev pub AreGiven : TableView → List ℕ → List Const → ℕ → Type 0
AreGiven table row [] place = Unit {0}
AreGiven table row (constant ∷ constants) place =
    IsNamed table constant × (place < length row) × (slice_index row place < length constant.domain) × AreGiven table row constants (place + 1)

-- the constants with numbers from one on, as far as another
abbrev pub constants_between : Signature → ℕ → ℕ → List Const
constants_between signature from to = take (to - from) (drop from (ground_constants signature))
