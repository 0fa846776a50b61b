-- What stands to the left of a declaration: the declarations of a table, and those of the same statement before it.
use Rattle.std.specs.Prelude.{◌≡◌, ℕ, Bool, true, false, ◌||◌, ◌&&◌, ◌==◌, not, nat_lt, List, [], ◌∷◌, map, flat_map, is_none, Option, None, Some}
use Rattle.std.specs.List.{list_any, list_all, find}
use Rattle.std.specs.Map.{lookup}
use Rattle.std.specs.Option.{option_map, option_or}
use Rattle.std.specs.declared.vec.Vec.{Vec}
use Rattle.cc_defs.specs.declared.signature.Symbol.{Symbol}
use Rattle.cc_defs.specs.DeclarationFaults.{is_sort, is_taken, is_twice, is_unknown, has_wrong_count, has_wrong_sort, same_pair, constant_named, sorts_of_constant, is_boolean_action, is_plain, same_sorts}
use Rattle.cc_defs.specs.Declarations.{Declaration, Declared, boolean, is_action, kind_of_constant, value_sort, Pair, pairs, sort_named, pair_declared, Put, put_declared, puts, variable_declared, constant_declared}
use Rattle.cc_defs.specs.Trees.{PlainShape, PlainKind, plain_shape, plain_kind}
use Rattle.cc_defs.specs.Grammar.{same_text}
use Rattle.cc_sorts.specs.Dictionaries.{names_of, number_of}
use Rattle.cc_sorts.specs.Entered.{IsEntered}
use Rattle.cc_sorts.specs.Tables.{TableView, symbol_names}
use Rattle.cc_sorts.specs.declared.declaration.Declaration as declarations
use Rattle.cc_sorts.specs.declared.declaration.Declaration.TheVariants as declared
use Rattle.cc_sorts.specs.declared.fault.FaultKind.{FaultKind}
use Rattle.cc_sorts.specs.declared.fault.FaultKind.TheVariants as kinds
use Rattle.cc_sorts.specs.declared.left.Constant.{Constant}
use Rattle.cc_sorts.specs.declared.left.Left.{Left}
use Rattle.cc_sorts.specs.declared.left.Range.{Range}
use Rattle.cc_sorts.specs.declared.left.SortPair.{SortPair}
use Rattle.cc_sorts.specs.declared.table.PutAt.{PutAt}
use denote.Bor.{Bor}

abbrev pub plain_pair : SortPair → Pair
plain_pair pair = (pair.upper.now, pair.lower.now)

-- whether the table has the sort
abbrev pub has_sort : TableView → List ℕ → Bool
has_sort table name = list_any (same_text name) table.sorts.names

-- the same by the numbers of sorts
abbrev pub is_numbered : Option ℕ → ℕ → Bool
is_numbered None number = false
is_numbered (Some other) number = other == number

-- whether the object of this number was put as a name
abbrev pub is_put_as : Option ℕ → PutAt → Bool
is_put_as object put = is_none put.number && is_numbered object put.object

-- whether what was put as a name, a variable or a constant of the table has the name
abbrev pub has_name : TableView → List ℕ → Bool
has_name table name =
    list_any (is_put_as (number_of (names_of table.objects) name)) table.puts
    || (list_any (same_text name) (names_of table.variables) || list_any (same_text name) (symbol_names table))

-- a number that is neither less than the one nor more than the other
abbrev pub is_from : ℕ → ℕ → ℕ → Bool
is_from low high number = not (nat_lt number low) && not (nat_lt high number)

abbrev pub is_number_from : ℕ → ℕ → Option ℕ → Bool
is_number_from low high None = false
is_number_from low high (Some number) = is_from low high number

-- whether one of these numbers was put into the sort itself
abbrev pub has_put_from : ℕ → ℕ → List ℕ → Put → Bool
has_put_from low high sort put = is_number_from low high put.number && same_text sort put.sort

abbrev pub is_put_from : ℕ → ℕ → Option ℕ → PutAt → Bool
is_put_from low high sort put = is_number_from low high put.number && is_numbered sort put.sort

abbrev pub table_has_from : TableView → ℕ → ℕ → List ℕ → Bool
table_has_from table low high sort = list_any (is_put_from low high (number_of table.sorts.names sort)) table.puts

-- whether two ranges of one sort have a number together
abbrev pub meets : ℕ → ℕ → List ℕ → Range → Bool
meets low high sort range =
    (not (nat_lt high low) && not (nat_lt range.high range.low)) && ((not (nat_lt range.high low) && not (nat_lt high range.low)) && same_text sort range.sort.now)

-- the symbol of a name
abbrev pub table_symbol : TableView → List ℕ → Option Symbol
table_symbol table name = option_map (λ placed. placed.symbol) (find (λ placed. same_text name placed.symbol.name) table.symbols)

abbrev pub left_has_sort : Left → List ℕ → Bool
left_has_sort left name = has_sort left.table.now name || list_any (λ sort. same_text name sort.now) left.sorts.keys

abbrev pub left_has_name : Left → List ℕ → Bool
left_has_name left name = has_name left.table.now name || list_any (λ taken. same_text name taken.now) left.names.keys

abbrev pub left_has_pair : Left → Pair → Bool
left_has_pair left pair = list_any (same_pair pair) left.table.now.sorts.pairs || list_any (λ other. same_pair pair (plain_pair other)) left.pairs.keys

abbrev pub left_has_upper : Left → List ℕ → Bool
left_has_upper left name = list_any (λ pair. same_text name pair.0) left.table.now.sorts.pairs || list_any (λ sort. same_text name sort.now) left.uppers.keys

abbrev pub left_has_from : Left → ℕ → ℕ → List ℕ → Bool
left_has_from left low high sort = table_has_from left.table.now low high sort || list_any (meets low high sort) left.ranges.items

-- a shape and a kind
abbrev pub Shaped : Type 0
Shaped = PlainShape × PlainKind

abbrev pub shaped : Declared → Shaped
shaped constant = (constant.shape, constant.kind)

abbrev pub arguments_of : Option Shaped → List (List ℕ)
arguments_of None = []
arguments_of (Some known) = known.0.sorts

abbrev pub plain_constant : Constant → Shaped
plain_constant constant = (plain_shape constant.shape.now, plain_kind constant.kind.now)

-- the new constant of a name
abbrev pub left_constant : Left → List ℕ → Option Shaped
left_constant left name = option_map plain_constant (lookup (λ key. same_text name key.now) left.constants.entries)

-- the new upper sorts of a lower sort
abbrev pub texts_of : {Z : Type 0} → Option (Vec (Bor (List ℕ)) Z) → List (List ℕ)
texts_of None = []
texts_of (Some vector) = map (λ text. text.now) vector.items

abbrev pub uppers_in : {Z : Type 0} → List (Bor (List ℕ) × Vec (Bor (List ℕ)) Z) → List ℕ → List (List ℕ)
uppers_in entries name = texts_of (lookup (λ key. same_text name key.now) entries)

abbrev pub new_uppers : Left → List ℕ → List (List ℕ)
new_uppers left name = uppers_in left.uppers_of.entries name

-- the new pairs are also found by their lower sorts
abbrev pub IsLinked : Left → Type 0
IsLinked left = (pair : Pair) → list_any (λ other. same_pair pair (plain_pair other)) left.pairs.keys ≡ list_any (same_text pair.0) (new_uppers left pair.1)

-- a pair was added by its lower sort
abbrev pub AddsUpper : {Z : Type 0} → List (Bor (List ℕ) × Vec (Bor (List ℕ)) Z) → List (Bor (List ℕ) × Vec (Bor (List ℕ)) Z) → Pair → Type 0
AddsUpper old new pair =
    (other : Pair) → list_any (same_text other.0) (uppers_in new other.1) ≡ (list_any (same_text other.0) (uppers_in old other.1) || same_pair other pair)

-- the table's declarations with the new ones that were added are these
pub record IsLeft (left : Left) (declarations : List Declaration) : Type 0 where
  pub base : List Declaration
  pub is_table : IsEntered left.table.now base
  pub sorts_are : (name : List ℕ) → is_sort declarations name ≡ left_has_sort left name
  pub names_are : (name : List ℕ) → is_taken declarations name ≡ left_has_name left name
  pub numbers_are : (low high : ℕ) (sort : List ℕ) → list_any (has_put_from low high sort) (puts declarations) ≡ left_has_from left low high sort
  pub pairs_are : (pair : Pair) → list_any (same_pair pair) (pairs declarations) ≡ left_has_pair left pair
  pub uppers_are : (name : List ℕ) → list_any (λ pair. same_text name pair.0) (pairs declarations) ≡ left_has_upper left name
  pub linked : IsLinked left
  pub constants_are : (name : List ℕ) → option_map shaped (constant_named declarations name) ≡ option_or (option_map shaped (constant_named base name)) (left_constant left name)

-- whether the declaration, or one of the numbers of a range, was made before
abbrev pub twice_by : Left → declarations.Declaration → Bool
twice_by left (declared.Sort name) = left_has_sort left name.now
twice_by left (declared.Object name sort) = left_has_name left name.now
twice_by left (declared.Numbers low high sort) = left_has_from left low high sort.now
twice_by left (declared.Link name) = false
twice_by left (declared.Subsort upper lower) = left_has_pair left (upper.now, lower.now)
twice_by left (declared.Variable name sort) = left_has_name left name.now
twice_by left (declared.Constant shape kind) = left_has_name left shape.now.name.now
twice_by left (declared.Kinds shapes kind) = false

-- whether declarations take the name
abbrev pub takes : List ℕ → List Declaration → Bool
takes name declarations =
    list_any (λ put. is_none put.number && same_text name put.name) (flat_map put_declared declarations)
    || (list_any (λ variable. same_text name variable.0) (flat_map variable_declared declarations)
    || list_any (same_text name) (map (λ constant. constant.shape.name) (flat_map constant_declared declarations)))

-- the new one has these declarations too
pub record Adds (old new : Left) (declarations : List Declaration) : Type 0 where
  pub table_is : new.table ≡ old.table
  pub sorts_are : (name : List ℕ) → left_has_sort new name ≡ (left_has_sort old name || list_any (same_text name) (flat_map sort_named declarations))
  pub names_are : (name : List ℕ) → left_has_name new name ≡ (left_has_name old name || takes name declarations)
  pub numbers_are : (low high : ℕ) (sort : List ℕ) →
      left_has_from new low high sort ≡ (left_has_from old low high sort || list_any (has_put_from low high sort) (flat_map put_declared declarations))
  pub pairs_are : (pair : Pair) → left_has_pair new pair ≡ (left_has_pair old pair || list_any (same_pair pair) (flat_map pair_declared declarations))
  pub uppers_are : (name : List ℕ) → left_has_upper new name ≡ (left_has_upper old name || list_any (λ pair. same_text name pair.0) (flat_map pair_declared declarations))
  pub linked : IsLinked old → IsLinked new
  pub constants_are : (name : List ℕ) →
      left_constant new name
      ≡ option_or (left_constant old name) (option_map shaped (find (λ constant. same_text name constant.shape.name) (flat_map constant_declared declarations)))

-- whether a declaration has a fault behind others
abbrev pub fault_of : FaultKind → List Declaration → Declaration → Bool
fault_of kinds.Twice = is_twice
fault_of kinds.Unknown = is_unknown
fault_of kinds.WrongCount = has_wrong_count
fault_of kinds.WrongSort = has_wrong_sort

-- ---- the action of an attribute

-- whether a constant is a Boolean action with these sorts, as the shapes have them
abbrev pub action_fits : Option Declared → List (List ℕ) → List PlainShape → Bool
action_fits found sorts shapes =
    is_boolean_action found && (same_sorts sorts (sorts_of_constant found) && list_all (λ shape. same_sorts shape.sorts (sorts_of_constant found)) shapes)

abbrev pub is_boolean_kind : PlainKind → Bool
is_boolean_kind kind = is_plain kind && (is_action (kind_of_constant kind) && same_text (value_sort kind) boolean)

abbrev pub shaped_fits : Option Shaped → List (List ℕ) → List PlainShape → Bool
shaped_fits None sorts shapes = false
shaped_fits (Some known) sorts shapes =
    is_boolean_kind known.1 && (same_sorts sorts known.0.sorts && list_all (λ shape. same_sorts shape.sorts known.0.sorts) shapes)

-- the same by the numbers of sorts
abbrev pub are_numbered : List (List ℕ) → List (List ℕ) → List ℕ → Bool
are_numbered names [] [] = true
are_numbered names [] (number ∷ numbers) = false
are_numbered names (sort ∷ sorts) [] = false
are_numbered names (sort ∷ sorts) (number ∷ numbers) = is_numbered (number_of names sort) number && are_numbered names sorts numbers

abbrev pub is_boolean_action_symbol : Symbol → Bool
is_boolean_action_symbol symbol = is_none symbol.attribute && (is_action symbol.kind && (symbol.domain == 0))

abbrev pub numbers_fit : TableView → Symbol → List (List ℕ) → List PlainShape → Bool
numbers_fit table symbol sorts shapes =
    is_boolean_action_symbol symbol && (are_numbered table.sorts.names sorts symbol.sorts && list_all (λ shape. are_numbered table.sorts.names shape.sorts symbol.sorts) shapes)
