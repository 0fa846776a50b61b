-- The text of a history, and that of an atom, is that of each description that has these declarations.
use Rattle.std.proofs.Common.{◌≡◌, ◌∙◌, ℕ, zero, suc, ◌+◌, ◌*◌, ◌/◌, ◌%◌, Option, Some, None, slice_get, List, [], ◌∷◌, ◌++◌, length, map, codes, decimal, slice_index, refl, sym, ap}
use Rattle.cc_defs.specs.declared.signature.Const.{Const}
use Rattle.cc_defs.specs.Declarations.{Declaration, Declared, Named, constants, objects, symbol_of, symbols}
use Rattle.cc_defs.specs.Description.{Description}
use Rattle.cc_defs.specs.Resolved.{BaseLaw}
use Rattle.cc_defs.specs.Signatures.{Signature}
use Rattle.cc_defs.specs.Texts.{actions_text, constants_shown, history_text, shown, state_text}
use Rattle.cc_defs.specs.Universe.{Universe, constants_in, universe}
use Rattle.cc_sorts.specs.Dictionaries.{names_of}
use Rattle.cc_sorts.specs.Tables.{IsSignatureOf, IsTable, TableView, numbered, placed_of}
use Rattle.cc_print.specs.Atoms.{atom_text, value_text}
use Rattle.cc_print.specs.Histories.{described}

abbrev with_laws : List (List ℕ) → Universe → List BaseLaw → Description
with_laws names u laws = record { objects = names; universe = u; laws = laws }

-- no text speaks of the laws
same_constants : (names : List (List ℕ)) (u : Universe) (laws others : List BaseLaw) (constants : List Const) (number : ℕ) (values : ℕ → ℕ) →
    constants_shown (with_laws names u laws) constants number values ≡ constants_shown (with_laws names u others) constants number values
same_constants names u laws others [] number values = refl
same_constants names u laws others (constant ∷ constants) number values =
    ap (λ rest. shown (with_laws names u laws) constant (slice_index constant.domain (values number)) ++ rest) (same_constants names u laws others constants (number + 1) values)

same_state : (names : List (List ℕ)) (u : Universe) (laws others : List BaseLaw) (row : List ℕ) (step : ℕ) →
    state_text (with_laws names u laws) row step ≡ state_text (with_laws names u others) row step
same_state names u laws others row step =
    ap (λ fluents. decimal step ++ codes ":" ++ fluents ++ 10 ∷ []) (same_constants names u laws others u.fluents 0 (λ number. slice_index row (step * (length u.fluents + length u.actions) + number)))

same_actions : (names : List (List ℕ)) (u : Universe) (laws others : List BaseLaw) (row : List ℕ) (step : ℕ) →
    actions_text (with_laws names u laws) row step ≡ actions_text (with_laws names u others) row step
same_actions names u laws others row step =
    ap (λ actions. codes "ACTIONS:" ++ actions ++ 10 ∷ []) (same_constants names u laws others u.actions (length u.fluents) (λ number. slice_index row (step * (length u.fluents + length u.actions) + number)))

same_history : (names : List (List ℕ)) (u : Universe) (laws others : List BaseLaw) (horizon : ℕ) (row : List ℕ) →
    history_text (with_laws names u laws) horizon row ≡ history_text (with_laws names u others) horizon row
same_history names u laws others zero row = same_state names u laws others row 0
same_history names u laws others (suc horizon) row =
    rw (same_history names u laws others horizon row, same_actions names u laws others row horizon, same_state names u laws others row (suc horizon)) refl

same_value : (names : List (List ℕ)) (u : Universe) (laws others : List BaseLaw) (found : Option Const) (value : ℕ) →
    value_text (with_laws names u laws) found value ≡ value_text (with_laws names u others) found value
same_value names u laws others (Some constant) value = refl
same_value names u laws others None value = refl

same_atom : (names : List (List ℕ)) (u : Universe) (laws others : List BaseLaw) (position value : ℕ) →
    atom_text (with_laws names u laws) position value ≡ atom_text (with_laws names u others) position value
same_atom names u laws others position value =
    let wide = length u.fluents + length u.actions in
    ap (λ said. decimal (position / wide) ++ codes ": " ++ said) (same_value names u laws others (slice_get (constants_in u) (position % wide)) value)

names_again : (left : List Declaration) (named : List Named) → names_of (numbered left named) ≡ map (λ entry. entry.0) named
names_again left [] = refl
names_again left (entry ∷ named) = ap (λ others. entry.0 ∷ others) (names_again left named)

symbols_again : (left : List Declaration) (declared : List Declared) → map (λ placed. placed.symbol) (placed_of left declared) ≡ map (symbol_of left) declared
symbols_again left [] = refl
symbols_again left (constant ∷ declared) = ap (λ others. symbol_of left constant ∷ others) (symbols_again left declared)

universe_is : (table : TableView) (left : List Declaration) (s : Signature) → IsTable table left → IsSignatureOf left s → (described table s).universe ≡ universe left
universe_is table left s is of =
    let made = of.1 in
    let symbols_are : map (λ placed. placed.symbol) table.symbols ≡ symbols left = ap (map (λ placed. placed.symbol)) is.symbols_are ∙ symbols_again left (constants left) in
    ap (λ sorts. record { sorts = sorts; numbers = s.numbers; symbols = map (λ placed. placed.symbol) table.symbols; fluents = s.fluents; actions = s.actions }) is.members_are
    ∙ ap (λ all. record { sorts = (universe left).sorts; numbers = s.numbers; symbols = all; fluents = s.fluents; actions = s.actions }) symbols_are
    ∙ ap (λ signature. record { sorts = (universe left).sorts; numbers = signature.numbers; symbols = symbols left; fluents = signature.fluents; actions = signature.actions }) made

module _ (table : TableView) (left : List Declaration) (s : Signature) (d : Description) (is : IsTable table left) (of : IsSignatureOf left s) (has : d.universe ≡ universe left)
    (named : d.objects ≡ map (λ object. object.0) (objects left)) where
  names_are : (described table s).objects ≡ d.objects
  names_are = ap names_of is.objects_are ∙ names_again left (objects left) ∙ sym named

  universe_same : (described table s).universe ≡ d.universe
  universe_same = universe_is table left s is of ∙ sym has

  pub same_text_of : (horizon : ℕ) (row : List ℕ) → history_text (described table s) horizon row ≡ history_text d horizon row
  same_text_of horizon row =
      ap (λ names. history_text (with_laws names (described table s).universe []) horizon row) names_are
      ∙ ap (λ u. history_text (with_laws d.objects u []) horizon row) universe_same
      ∙ same_history d.objects d.universe [] d.laws horizon row

  pub same_atom_of : (position value : ℕ) → atom_text (described table s) position value ≡ atom_text d position value
  same_atom_of position value =
      ap (λ names. atom_text (with_laws names (described table s).universe []) position value) names_are
      ∙ ap (λ u. atom_text (with_laws d.objects u []) position value) universe_same
      ∙ same_atom d.objects d.universe [] d.laws position value
