-- The meaning of a name by what a table finds.
use Rattle.std.proofs.Common.{◌≡◌, ◌<◌, ℕ, true, false, List, [], ◌∷◌, length, map, Some, None, refl, ap, subst, sym, ◌∙◌}
use Rattle.std.specs.Prelude.{codes, slice_get, option_map}
use Rattle.std.proofs.lemmas.List.{length-map}
use Rattle.std.proofs.lemmas.List.Quantifiers.{position-Some}
use Rattle.std.proofs.lemmas.Option.{get_or_from_slice_get, slice_get-map}
use Rattle.cc_defs.specs.Grammar.{same_text}
use Rattle.cc_defs.specs.declared.signature.Symbol.{Symbol}
use Rattle.cc_sorts.specs.Dictionaries.{number_of, names_of, values_of}
use Rattle.cc_sorts.specs.Tables.{TableView, symbol_names}
use Rattle.cc_sorts.specs.declared.table.Placed.{Placed}
use Rattle.cc_laws.specs.Vocabulary.{Unknown, Nothing, Object, Variable, Constant, meaning, as_variable, vocabulary_of}

-- what is found by its name is there
pub found_within : {X : Type 0} (text : X → List ℕ) (entries : List X) (name : List ℕ) (number : ℕ) → number_of (map text entries) name ≡ Some number → number < length entries
found_within text entries name number e = subst (λ (n : ℕ). number < n) (length-map entries text) (position-Some (same_text name) (map text entries) number [] e).0

pub nothing_meant : (table : TableView) (name : List ℕ) → same_text name (codes "none") ≡ true → Nothing ≡ meaning (vocabulary_of table) name
nothing_meant table name e = rw e

pub object_meant : (table : TableView) (name : List ℕ) (number sort : ℕ) → same_text name (codes "none") ≡ false → number_of (names_of table.objects) name ≡ Some number
    → Some sort ≡ slice_get (values_of table.objects) number → Object number sort ≡ meaning (vocabulary_of table) name
object_meant table name number sort e f is = rw (e, f) (ap (Object number) (sym (get_or_from_slice_get (values_of table.objects) number sort 0 (sym is))))

pub variable_meant : (table : TableView) (name : List ℕ) (number sort : ℕ) → same_text name (codes "none") ≡ false → number_of (names_of table.objects) name ≡ None
    → number_of (names_of table.variables) name ≡ Some number → Some sort ≡ slice_get (values_of table.variables) number → Variable number sort ≡ meaning (vocabulary_of table) name
variable_meant table name number sort e f g is =
    rw (e, f, g) (ap (Variable number) (sym (get_or_from_slice_get (values_of table.variables) number sort 0 (sym is))))

names_of_symbols : (entries : List Placed) → map (λ (symbol : Symbol). symbol.name) (map (λ (placed : Placed). placed.symbol) entries) ≡ map (λ (placed : Placed). placed.symbol.name) entries
names_of_symbols [] = refl
names_of_symbols (entry ∷ entries) = ap (λ names. entry.symbol.name ∷ names) (names_of_symbols entries)

-- neither `none` nor an object nor a variable
no_other : (table : TableView) (name : List ℕ) → same_text name (codes "none") ≡ false → number_of (names_of table.objects) name ≡ None → number_of (names_of table.variables) name ≡ None → meaning (vocabulary_of table) name ≡ as_variable (vocabulary_of table) name None
no_other table name e f g = rw (e, f, g)

pub constant_meant : (table : TableView) (name : List ℕ) (number : ℕ) (symbol : Symbol) → same_text name (codes "none") ≡ false → number_of (names_of table.objects) name ≡ None → number_of (names_of table.variables) name ≡ None
    → number_of (symbol_names table) name ≡ Some number → Some symbol ≡ option_map (λ (placed : Placed). placed.symbol) (slice_get table.symbols number) → Constant number symbol ≡ meaning (vocabulary_of table) name
constant_meant table name number symbol e f g h i =
    sym (no_other table name e f g ∙ rw (names_of_symbols table.symbols, h, slice_get-map (λ (placed : Placed). placed.symbol) table.symbols number, ← i))

pub unknown_meant : (table : TableView) (name : List ℕ) → same_text name (codes "none") ≡ false → number_of (names_of table.objects) name ≡ None → number_of (names_of table.variables) name ≡ None
    → number_of (symbol_names table) name ≡ None → Unknown ≡ meaning (vocabulary_of table) name
unknown_meant table name e f g h = sym (no_other table name e f g ∙ rw (names_of_symbols table.symbols, h))
