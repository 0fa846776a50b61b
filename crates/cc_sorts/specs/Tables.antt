-- What a table holds, and that it is the table of a list of declarations.
use Rattle.std.specs.Prelude.{◌≡◌, ◌⊎◌, ℕ, ◌≤◌, Bool, true, ◌&&◌, List, [], ◌∷◌, ◌++◌, length, map, codes, IsTrue, Option, Some, None}
use Rattle.std.specs.List.{AllByRecursion, list_any}
use Rattle.cc_defs.specs.declared.refusal.Fault.{Fault}
use Rattle.cc_defs.specs.declared.refusal.Fault.TheVariants as faults
use Rattle.cc_defs.specs.declared.signature.Symbol.{Symbol}
use Rattle.cc_defs.specs.DeclarationFaults.{is_sort, are_sorts, declaration_refusal, signature_refusal}
use Rattle.cc_defs.specs.Declarations.{Declaration, Declared, Named, Put, sort_names, pairs, puts, first_puts, object_of, objects, numbers, variables, constants, symbol_of, constant_names, members, number_in, value_sort, declarations_of, ground_fluents, ground_actions}
use Rattle.cc_defs.specs.Refusals.{IsRefusedBy}
use Rattle.cc_defs.specs.Signatures.{Signature, none_value}
use Rattle.cc_defs.specs.Grammar.{same_text}
use Rattle.cc_defs.specs.Trees.{PlainKind, PlainStatement}
use Rattle.cc_defs.specs.Trees as trees
use Rattle.cc_sorts.specs.declared.table.Placed.{Placed}
use Rattle.cc_sorts.specs.declared.table.PutAt.{PutAt}
use Rattle.cc_sorts.specs.SortViews.{SortsView, first_sorts}

-- the name of an object or a variable, and the number of its sort
abbrev pub Numbered : Type 0
Numbered = List ℕ × ℕ

pub record TableView : Type 0 where
  pub sorts : SortsView
  -- what was put, in the order of the text
  pub puts : List PutAt
  pub objects : List Numbered
  -- the number that each object is, where it is one
  pub numbers : List (Option ℕ)
  pub variables : List Numbered
  pub symbols : List Placed

abbrev pub first_table : TableView
first_table = record {
  sorts = first_sorts;
  puts = record { object = 0; sort = 0; number = None } ∷ record { object = 1; sort = 0; number = None } ∷ [];
  objects = (codes "false", 0) ∷ (codes "true", 0) ∷ [];
  numbers = None ∷ None ∷ [];
  variables = [];
  symbols = [];
}

abbrev pub numbered : List Declaration → List Named → List Numbered
numbered declarations named = map (λ entry. (entry.0, number_in (sort_names declarations) entry.1)) named

abbrev pub place_symbol : Symbol → Declared → Placed
place_symbol symbol constant = record { symbol = symbol; file = constant.file; line = constant.line }

-- the object that was put, by its number, the sort, by its number, and which number it is, where it was put as one
abbrev pub put_at : List Declaration → Put → PutAt
put_at declarations put = record {
  object = object_of (first_puts declarations) (Some put);
  sort = number_in (sort_names declarations) put.sort;
  number = put.number;
}

-- the symbols of constants, each with its place
abbrev pub placed_of : List Declaration → List Declared → List Placed
placed_of declarations constants = map (λ constant. place_symbol (symbol_of declarations constant) constant) constants

-- the action of an attribute has one of these names
abbrev pub has_action : List (List ℕ) → PlainKind → Bool
has_action names (trees.Plain word sort) = true
has_action names (trees.Attribute sort action) = list_any (same_text action.name) names

-- each sort and each action that is named is declared
pub record AreKnown (declarations : List Declaration) : Type 0 where
  pub of_puts : AllByRecursion (λ put. IsTrue (is_sort declarations put.sort)) (puts declarations)
  pub of_variables : AllByRecursion (λ variable. IsTrue (is_sort declarations variable.1)) (variables declarations)
  pub of_arguments : AllByRecursion (λ constant. IsTrue (are_sorts declarations constant.shape.sorts)) (constants declarations)
  pub of_values : AllByRecursion (λ constant. IsTrue (is_sort declarations (value_sort constant.kind))) (constants declarations)
  pub of_actions : AllByRecursion (λ constant. IsTrue (has_action (constant_names declarations) constant.kind)) (constants declarations)
  pub of_pairs : AllByRecursion (λ pair. IsTrue (is_sort declarations pair.0 && is_sort declarations pair.1)) (pairs declarations)

-- the table is that of these declarations
pub record IsTable (table : TableView) (declarations : List Declaration) : Type 0 where
  pub names : table.sorts.names ≡ sort_names declarations
  pub pairs_are : table.sorts.pairs ≡ pairs declarations
  pub members_are : table.sorts.members ≡ map (members declarations) (sort_names declarations)
  pub puts_are : table.puts ≡ map (put_at declarations) (puts declarations)
  pub objects_are : table.objects ≡ numbered declarations (objects declarations)
  pub numbers_are : table.numbers ≡ numbers declarations
  pub variables_are : table.variables ≡ numbered declarations (variables declarations)
  pub symbols_are : table.symbols ≡ placed_of declarations (constants declarations)
  pub known : AreKnown declarations

-- the table is that of some declarations
abbrev pub IsOfDeclarations : TableView → Type 0
IsOfDeclarations table = (declarations : List Declaration) × IsTable table declarations

abbrev pub symbol_names : TableView → List (List ℕ)
symbol_names table = map (λ placed. placed.symbol.name) table.symbols

-- the statement has no fault, and the table is that of all declarations with its own
abbrev pub Declares : ℕ → List Declaration → PlainStatement → TableView → Type 0
Declares file left statement new =
    (declaration_refusal file left statement ≡ None) × IsTable new (left ++ declarations_of file statement)

-- a front of the statement's declarations is there; of a statement with a fault none of them
abbrev pub HasFront : ℕ → List Declaration → PlainStatement → TableView → Type 0
HasFront file left statement new =
    (front : List Declaration) × (rest : List Declaration) × ((front ≡ []) ⊎ (declaration_refusal file left statement ≡ None))
    × (declarations_of file statement ≡ front ++ rest) × IsTable new (left ++ front)

-- the statement is refused so, and nothing was changed; or memory was wanting
abbrev pub HasRefused : ℕ → List Declaration → PlainStatement → TableView → TableView → Fault → Type 0
HasRefused file left statement old new faults.OutOfMemory = HasFront file left statement new
HasRefused file left statement old new (faults.Refused refusal) = (declaration_refusal file left statement ≡ Some refusal) × (new ≡ old)

-- a refusal changes nothing
abbrev pub IsUnchangedBy : TableView → TableView → Fault → Type 0
IsUnchangedBy old new faults.OutOfMemory = Unit {0}
IsUnchangedBy old new (faults.Refused refusal) = new ≡ old

-- the signature of these declarations, which are not refused; no object has the number that stands for `none`
abbrev pub IsSignatureOf : List Declaration → Signature → Type 0
IsSignatureOf declarations signature =
    (signature_refusal declarations ≡ None)
    × (signature ≡ record { fluents = ground_fluents declarations; actions = ground_actions declarations; numbers = numbers declarations })
    × (length (objects declarations) ≤ none_value)

-- the signature is that of the table
abbrev pub IsSignatureFor : TableView → Signature → Type 0
IsSignatureFor table signature = (declarations : List Declaration) × IsTable table declarations × IsSignatureOf declarations signature

-- exactly the refusal of these declarations, or memory was wanting
abbrev pub IsRefusedSignature : List Declaration → Fault → Type 0
IsRefusedSignature declarations = IsRefusedBy (signature_refusal declarations)
