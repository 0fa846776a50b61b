-- The vocabulary of a table is that of its declarations.
use Rattle.std.proofs.Common.{◌≡◌, ◌∙◌, ℕ, List, [], ◌∷◌, map, refl, ap}
use Rattle.cc_defs.specs.declared.signature.Symbol.{Symbol}
use Rattle.cc_defs.specs.Declarations.{Declaration, Declared, Pair, sort_names, pairs, objects, variables, symbols, symbol_of, constants}
use Rattle.cc_sorts.specs.declared.table.Placed.{Placed}
use Rattle.cc_sorts.specs.Tables.{TableView, Numbered, numbered, IsTable, place_symbol}
use Rattle.cc_laws.specs.Vocabulary.{Vocabulary, vocabulary, vocabulary_of}

abbrev symbols_in : List Placed → List Symbol
symbols_in placed = map (λ placed. placed.symbol) placed

symbols_placed : (of : Declared → Symbol) (constants : List Declared) → symbols_in (map (λ constant. place_symbol (of constant) constant) constants) ≡ map of constants
symbols_placed of [] = refl
symbols_placed of (constant ∷ constants) = ap (λ (rest : List Symbol). of constant ∷ rest) (symbols_placed of constants)

abbrev built : List (List ℕ) → List Pair → List Numbered → List Numbered → List Symbol → Vocabulary
built sorts pairs objects variables symbols =
    record { sorts = sorts; pairs = pairs; objects = objects; variables = variables; symbols = symbols }

pub same_vocabulary : (table : TableView) (left : List Declaration) → IsTable table left → vocabulary_of table ≡ vocabulary left
same_vocabulary table left is =
    let sorts = sort_names left in
    let objects_there = numbered left (objects left) in
    let variables_there = numbered left (variables left) in
    ap (λ (w : List (List ℕ)). built w table.sorts.pairs table.objects table.variables (symbols_in table.symbols)) is.names
    ∙ ap (λ (w : List Pair). built sorts w table.objects table.variables (symbols_in table.symbols)) is.pairs_are
    ∙ ap (λ (w : List Numbered). built sorts (pairs left) w table.variables (symbols_in table.symbols)) is.objects_are
    ∙ ap (λ (w : List Numbered). built sorts (pairs left) objects_there w (symbols_in table.symbols)) is.variables_are
    ∙ ap (λ (w : List Placed). built sorts (pairs left) objects_there variables_there (symbols_in w)) is.symbols_are
    ∙ ap (λ (w : List Symbol). built sorts (pairs left) objects_there variables_there w) (symbols_placed (symbol_of left) (constants left))
