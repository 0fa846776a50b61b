-- What a register holds. The lists of its sorts are of the numbers of puts.
use Rattle.std.specs.Prelude.{◌≡◌, ℕ, ◌<◌, List, [], ◌++◌, ◌⊎◌, length, map, None, Some}
use Rattle.std.specs.List.{AllByRecursion}
use Rattle.cc_defs.specs.declared.refusal.Fault.{Fault}
use Rattle.cc_defs.specs.declared.refusal.Fault.TheVariants as faults
use Rattle.cc_defs.specs.DeclarationFaults.{declaration_refusal}
use Rattle.cc_defs.specs.Declarations.{Declaration, sort_names, pairs, puts, objects, numbers, variables, constants, placed, declarations_of}
use Rattle.cc_defs.specs.Trees.{PlainStatement}
use Rattle.cc_sorts.specs.declared.table.Placed.{Placed}
use Rattle.cc_sorts.specs.declared.table.PutAt.{PutAt}
use Rattle.cc_sorts.specs.Dictionaries.{names_of, values_of}
use Rattle.cc_sorts.specs.Shown.{shown_lists}
use Rattle.cc_sorts.specs.SortViews.{SortsView, IsPast}
use Rattle.cc_sorts.specs.Tables.{TableView, Numbered, AreKnown, put_at, numbered, placed_of}

-- the numbers fit, the lists are what is shown of the puts, and a symbol stands under its own name
pub record Fits (sorts : SortsView) (puts : List PutAt) (lists : List (List ℕ)) (objects variables : List Numbered) (symbols : List (List ℕ × Placed)) : Type 0 where
  pub few_sorts : length sorts.names < 4000000000
  pub few_puts : length puts < 4000000000
  pub few_objects : length objects < 4000000000
  pub few_variables : length variables < 4000000000
  pub few_symbols : length symbols < 4000000000
  pub named : names_of symbols ≡ map (λ placed. placed.symbol.name) (values_of symbols)
  pub past : IsPast (length puts) sorts
  pub as_many : length sorts.members ≡ length sorts.names
  pub shown : lists ≡ shown_lists puts sorts.members
  pub owned : AllByRecursion (λ put. put.object < length objects) puts

-- the register is that of these declarations
pub record IsEntered (table : TableView) (declarations : List Declaration) : Type 0 where
  pub names : table.sorts.names ≡ sort_names declarations
  pub pairs_are : table.sorts.pairs ≡ pairs declarations
  pub members_are : table.sorts.members ≡ map (placed declarations) (sort_names declarations)
  pub puts_are : table.puts ≡ map (put_at declarations) (puts declarations)
  pub objects_are : table.objects ≡ numbered declarations (objects declarations)
  pub numbers_are : table.numbers ≡ numbers declarations
  pub variables_are : table.variables ≡ numbered declarations (variables declarations)
  pub symbols_are : table.symbols ≡ placed_of declarations (constants declarations)
  pub known : AreKnown declarations

-- the register is that of some declarations
abbrev pub IsOfEntered : TableView → Type 0
IsOfEntered table = (declarations : List Declaration) × IsEntered table declarations

-- the statement has no fault, and the register is that of all declarations with its own
abbrev pub Enters : ℕ → List Declaration → PlainStatement → TableView → Type 0
Enters file left statement new =
    (declaration_refusal file left statement ≡ None) × IsEntered new (left ++ declarations_of file statement)

-- a front of the statement's declarations is there; of a statement with a fault none of them
abbrev pub HasEntered : ℕ → List Declaration → PlainStatement → TableView → Type 0
HasEntered file left statement new =
    (front : List Declaration) × (rest : List Declaration) × ((front ≡ []) ⊎ (declaration_refusal file left statement ≡ None))
    × (declarations_of file statement ≡ front ++ rest) × IsEntered new (left ++ front)

-- the statement is refused so, and nothing was changed; or memory was wanting
abbrev pub IsRefusedFor : ℕ → List Declaration → PlainStatement → TableView → TableView → Fault → Type 0
IsRefusedFor file left statement old new faults.OutOfMemory = HasEntered file left statement new
IsRefusedFor file left statement old new (faults.Refused refusal) = (declaration_refusal file left statement ≡ Some refusal) × (new ≡ old)
