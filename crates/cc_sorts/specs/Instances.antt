-- The instances of the symbols of a table, and their refusal, by number.
use Rattle.std.specs.Prelude.{ℕ, ◌+◌, Bool, true, false, not, List, [], ◌∷◌, ◌++◌, map, flat_map, slice_get, if◌then◌else◌, Option, Some, None}
use Rattle.std.specs.List.{find}
use Rattle.cc_defs.specs.declared.refusal.Refusal.{Refusal}
use Rattle.cc_defs.specs.declared.signature.Const.{Const}
use Rattle.cc_defs.specs.declared.signature.Kind.{Kind}
use Rattle.cc_defs.specs.declared.signature.Symbol.{Symbol}
use Rattle.cc_defs.specs.DeclarationFaults.{is_empty, count_refusal}
use Rattle.cc_defs.specs.Declarations.{is_action}
use Rattle.cc_defs.specs.Refusals.{refused}
use Rattle.cc_defs.specs.Universe.{with_none}
use Rattle.cc_sorts.specs.declared.table.Placed.{Placed}
use Rattle.cc_sorts.specs.SortViews.{SortsView, members_at}
use Rattle.cc_sorts.specs.Tables.{TableView}

-- the values of a symbol
abbrev pub values_by : SortsView → Symbol → List ℕ
values_by sorts symbol = with_none symbol.attribute (members_at sorts symbol.domain)

-- all lists of arguments of these sorts
abbrev pub rows_by : SortsView → List ℕ → List (List ℕ)
rows_by sorts [] = [] ∷ []
rows_by sorts (sort ∷ others) = flat_map (λ object. map (λ args. object ∷ args) (rows_by sorts others)) (members_at sorts sort)

abbrev pub constant_by : SortsView → ℕ → Symbol → List ℕ → Const
constant_by sorts number symbol args = record { symbol = number; args = args; kind = symbol.kind; domain = values_by sorts symbol }

abbrev pub passes : Bool → Kind → Bool
passes true kind = is_action kind
passes false kind = not (is_action kind)

-- the instances of a symbol, if it is an action or a fluent as asked
abbrev pub instances_by : SortsView → Bool → ℕ → Placed → List Const
instances_by sorts actions number placed =
    if passes actions placed.symbol.kind then map (constant_by sorts number placed.symbol) (rows_by sorts placed.symbol.sorts) else []

abbrev pub instances_from : SortsView → Bool → ℕ → List Placed → List Const
instances_from sorts actions number [] = []
instances_from sorts actions number (placed ∷ others) = instances_by sorts actions number placed ++ instances_from sorts actions (number + 1) others

abbrev pub all_instances : TableView → List Const
all_instances table = instances_from table.sorts false 0 table.symbols ++ instances_from table.sorts true 0 table.symbols

abbrev pub refusal_at : Option Placed → Refusal
refusal_at (Some placed) = refused 12 placed.file placed.line
refusal_at None = refused 12 0 0

abbrev pub first_refusal : List Placed → List Const → Option Const → Option Refusal
first_refusal symbols instances (Some constant) = Some (refusal_at (slice_get symbols constant.symbol))
first_refusal symbols instances None = count_refusal instances

abbrev pub refusal_by : TableView → Option Refusal
refusal_by table = first_refusal table.symbols (all_instances table) (find is_empty (all_instances table))
