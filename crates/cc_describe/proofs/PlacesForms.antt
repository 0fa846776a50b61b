-- The laws of places without a refusal have the forms of their kinds, and what queries ask are formulas of declared constants.
use Rattle.std.proofs.Common.{◌≡◌, ◌∙◌, ℕ, List, [], ◌∷◌, ◌++◌, map, Option, None, Some, refl, sym, ap, subst, append_assoc, append-nil}
use Rattle.std.specs.List.{AllByRecursion}
use Rattle.std.specs.Option.{option_or}
use Rattle.std.proofs.lemmas.List.Concat.{flat_map-cons}
use Rattle.cc_defs.specs.declared.signature.Symbol.{Symbol}
use Rattle.cc_defs.specs.Declarations.{Declaration, Declared, constants, part_declarations, symbol_of, symbols}
use Rattle.cc_defs.specs.Forms.{HasForm, HaveForms}
use Rattle.cc_defs.specs.declared.refusal.Refusal.{Refusal}
use Rattle.cc_defs.specs.Trees.{PlainPart, PlainStatement}
use Rattle.cc_defs.specs.Trees as trees
use Rattle.cc_laws.specs.Expansion.{base_laws}
use Rattle.cc_laws.specs.LawFaults.{law_refusal}
use Rattle.cc_laws.specs.Laws.{ConstantsHaveForms, HasFormulas, LawsHaveForms, QueriesHaveFormulas, WideConstantsHaveForms, WideLawsHaveForms}
use Rattle.cc_laws.specs.Vocabulary.{vocabulary}
use Rattle.cc_laws.specs.Widening.{wide_laws, wide_refusal}
use Rattle.cc_sorts.specs.Tables.{TableView, IsTable, placed_of}
use Rattle.cc_wide.specs.WideForms.{HasWideForm, HaveWideForms}
use Rattle.cc_describe.specs.declared.heads.Heads.{Heads}
use Rattle.cc_describe.specs.declared.heads.Heads.TheVariants as heads
use Rattle.cc_describe.specs.declared.description.Described.{Described}
use Rattle.cc_describe.specs.declared.description.DescribedWide.{DescribedWide}
use Rattle.cc_describe.specs.Describing.{AsksFormulas, HasForms, HasWideForms, IsDescribed, IsDescribedWide, asked_in, laws_at, queries_at, wide_at}
use Rattle.cc_describe.specs.FirstRefusal.{declared_at, declared_in, refusal_at, statement_refusal, first_behind}
use Rattle.cc_describe.specs.Places.{Place, Opened, Barred, Said}
use Rattle.cc_describe.proofs.PlacesAppended.{Gathers, declared_in_behind, gathers_laws, gathers_queries, gathers_wide}

both_none : (one other : Option Refusal) → option_or one other ≡ None → (one ≡ None) × (other ≡ None)
both_none None other e = (refl, e)
both_none (Some refusal) other e = absurd cc

each_of_both : {X : Type 0} (P : X → Type 0) (xs ys : List X) → AllByRecursion P xs → AllByRecursion P ys → AllByRecursion P (xs ++ ys)
each_of_both P [] ys first second = second
each_of_both P (x ∷ xs) ys first second = (first.0, each_of_both P xs ys first.1 second)

-- what is declared before a place, at it and behind it
whole_is : (before : List Place) (place : Place) (places : List Place) → (declared_in before ++ declared_at place) ++ declared_in places ≡ declared_in before ++ declared_in (place ∷ places)
whole_is before place places =
    append_assoc (declared_in before) (declared_at place) (declared_in places) ∙ ap (λ (w : List Declaration). declared_in before ++ w) (sym (flat_map-cons declared_at place places))

next_is : (before : List Place) (place : Place) (places : List Place) → declared_in (before ++ place ∷ []) ++ declared_in places ≡ declared_in before ++ declared_in (place ∷ places)
next_is before place places = ap (λ (w : List Declaration). w ++ declared_in places) (declared_in_behind before place) ∙ whole_is before place places

-- what holds of all that each place adds, if none is refused, holds of all that they add
module _ (which : Heads) {X : Type 0} (P : List Symbol → X → Type 0) {at : List Place → Place → List X} {behind : List Place → List Place → List X} (gathers : Gathers at behind)
    (each : (before : List Place) (place : Place) (places : List Place) → refusal_at which before place ≡ None → AllByRecursion (P (symbols (declared_in before ++ declared_in (place ∷ places)))) (at before place)) where
  all_behind : (before places : List Place) → first_behind which before places ≡ None → AllByRecursion (P (symbols (declared_in before ++ declared_in places))) (behind before places)
  all_behind before [] none = subst (AllByRecursion (P (symbols (declared_in before ++ [])))) (sym (gathers.none before)) tt
  all_behind before (place ∷ places) none =
      let nones = both_none (refusal_at which before place) (first_behind which (before ++ place ∷ []) places) none in
      let Q : List Declaration → Type 0 = λ w. AllByRecursion (P (symbols w)) (behind (before ++ place ∷ []) places) in
      let all = P (symbols (declared_in before ++ declared_in (place ∷ places))) in
      subst (AllByRecursion all) (sym (gathers.more before place places))
      (each_of_both all (at before place) (behind (before ++ place ∷ []) places) (each before place places nones.0)
      (subst Q (next_is before place places) (all_behind (before ++ place ∷ []) places nones.1)))

-- ---- base laws

module _ (of_laws : LawsHaveForms) (of_constants : ConstantsHaveForms) where
  part_forms : (before : List Place) (more : List Declaration) (file line : ℕ) (around : List (List ℕ)) (part : PlainPart) →
      statement_refusal heads.Definite before file around (record { part = part; line = line }) part ≡ None →
      let left = declared_in before ++ part_declarations file line part in HaveForms (symbols (left ++ more)) (base_laws file (vocabulary left) line part)
  part_forms before more file line around (trees.Sorts items) none = tt
  part_forms before more file line around (trees.Objects items) none = tt
  part_forms before more file line around (trees.Variables items) none = tt
  part_forms before more file line around (trees.Constants items) none = of_constants file line (declared_in before) more items none
  part_forms before more file line around (trees.Query items) none = tt
  part_forms before more file line around (trees.Include name) none = tt
  part_forms before more file line around (trees.Law law test) none =
      let left = declared_in before in
      let P : List Declaration → Type 0 = λ w. law_refusal file (vocabulary w) (record { part = trees.Law law test; line = line }) ≡ None in
      of_laws file line (left ++ []) more law test (subst P (sym (append-nil left)) none)

  place_forms : (which : Heads) (before : List Place) (place : Place) (places : List Place) → refusal_at which before place ≡ None →
      HaveForms (symbols (declared_in before ++ declared_in (place ∷ places))) (laws_at which before place)
  place_forms which before (Opened name bytes) places none = tt
  place_forms which before (Barred refusal) places none = tt
  place_forms heads.Any before (Said file around statement) places none = tt
  place_forms heads.Definite before (Said file around statement) places none =
      let place = Said file around statement in
      let P : List Declaration → Type 0 = λ w. HaveForms (symbols w) (laws_at heads.Definite before place) in
      subst P (whole_is before place places) (part_forms before (declared_in places) file statement.line around statement.part none)

-- ---- laws with heads of any form

module _ (of_laws : WideLawsHaveForms) (of_constants : WideConstantsHaveForms) where
  part_wide_forms : (before : List Place) (more : List Declaration) (file line : ℕ) (around : List (List ℕ)) (part : PlainPart) →
      statement_refusal heads.Any before file around (record { part = part; line = line }) part ≡ None →
      let left = declared_in before ++ part_declarations file line part in HaveWideForms (symbols (left ++ more)) (wide_laws file (vocabulary left) line part)
  part_wide_forms before more file line around (trees.Sorts items) none = tt
  part_wide_forms before more file line around (trees.Objects items) none = tt
  part_wide_forms before more file line around (trees.Variables items) none = tt
  part_wide_forms before more file line around (trees.Constants items) none = of_constants file line (declared_in before) more items none
  part_wide_forms before more file line around (trees.Query items) none = tt
  part_wide_forms before more file line around (trees.Include name) none = tt
  part_wide_forms before more file line around (trees.Law law test) none =
      let left = declared_in before in
      let P : List Declaration → Type 0 = λ w. wide_refusal file (vocabulary w) (record { part = trees.Law law test; line = line }) ≡ None in
      of_laws file line (left ++ []) more law test (subst P (sym (append-nil left)) none)

  place_wide_forms : (which : Heads) (before : List Place) (place : Place) (places : List Place) → refusal_at which before place ≡ None →
      HaveWideForms (symbols (declared_in before ++ declared_in (place ∷ places))) (wide_at which before place)
  place_wide_forms which before (Opened name bytes) places none = tt
  place_wide_forms which before (Barred refusal) places none = tt
  place_wide_forms heads.Definite before (Said file around statement) places none = tt
  place_wide_forms heads.Any before (Said file around statement) places none =
      let place = Said file around statement in
      let P : List Declaration → Type 0 = λ w. HaveWideForms (symbols w) (wide_at heads.Any before place) in
      subst P (whole_is before place places) (part_wide_forms before (declared_in places) file statement.line around statement.part none)

-- ---- queries

module _ (of_queries : QueriesHaveFormulas) where
  part_asks : (before : List Place) (more : List Declaration) (file : ℕ) (statement : PlainStatement) (part : PlainPart) →
      AllByRecursion (HasFormulas (symbols (declared_in before ++ more))) (asked_in before file statement part)
  part_asks before more file statement (trees.Query items) = (of_queries file (declared_in before) more statement, tt)
  part_asks before more file statement (trees.Sorts items) = tt
  part_asks before more file statement (trees.Objects items) = tt
  part_asks before more file statement (trees.Variables items) = tt
  part_asks before more file statement (trees.Constants items) = tt
  part_asks before more file statement (trees.Include name) = tt
  part_asks before more file statement (trees.Law law test) = tt

  place_asks : (which : Heads) (before : List Place) (place : Place) (places : List Place) → refusal_at which before place ≡ None →
      AllByRecursion (HasFormulas (symbols (declared_in before ++ declared_in (place ∷ places)))) (queries_at before place)
  place_asks which before (Opened name bytes) places none = tt
  place_asks which before (Barred refusal) places none = tt
  place_asks which before (Said file around statement) places none = part_asks before (declared_in (Said file around statement ∷ places)) file statement statement.part

-- ---- a description

placed_symbols : (declarations : List Declaration) (all : List Declared) → map (λ placed. placed.symbol) (placed_of declarations all) ≡ map (symbol_of declarations) all
placed_symbols declarations [] = refl
placed_symbols declarations (first ∷ others) = ap (λ (w : List Symbol). symbol_of declarations first ∷ w) (placed_symbols declarations others)

table_symbols : (table : TableView) (declarations : List Declaration) → IsTable table declarations → map (λ placed. placed.symbol) table.symbols ≡ symbols declarations
table_symbols table declarations is = ap (map (λ placed. placed.symbol)) is.symbols_are ∙ placed_symbols declarations (constants declarations)

-- two lists of declarations of one table have the same symbols
same_symbols : (table : TableView) (declarations others : List Declaration) → IsTable table declarations → IsTable table others → symbols declarations ≡ symbols others
same_symbols table declarations others one other = sym (table_symbols table declarations one) ∙ table_symbols table others other

-- so it holds of all that was kept, at the declarations of the table
of_table : {X : Type 0} (P : List Symbol → X → Type 0) {items all : List X} {left : List Declaration} (table : TableView) → items ≡ all → IsTable table left → AllByRecursion (P (symbols left)) all →
    (declarations : List Declaration) → IsTable table declarations → AllByRecursion (P (symbols declarations)) items
of_table P {items = items} {left = left} table are is all declarations is_table =
    let Q : List Symbol → Type 0 = λ w. AllByRecursion (P w) items in
    subst Q (same_symbols table left declarations is is_table) (subst (AllByRecursion (P (symbols left))) (sym are) all)

pub has_forms : LawsHaveForms → ConstantsHaveForms → (which : Heads) (places : List Place) (described : Described) → first_behind which [] places ≡ None → IsDescribed which places described → HasForms described
has_forms of_laws of_constants which places described none is =
    of_table HasForm described.table is.laws is.table (all_behind which HasForm (gathers_laws which) (place_forms of_laws of_constants which) [] places none)

pub has_wide_forms : WideLawsHaveForms → WideConstantsHaveForms → (which : Heads) (places : List Place) (read : DescribedWide) → first_behind which [] places ≡ None → IsDescribedWide which places read →
    HasWideForms read
has_wide_forms of_laws of_constants which places read none is =
    of_table HasWideForm read.described.table is.wide is.described.table (all_behind which HasWideForm (gathers_wide which) (place_wide_forms of_laws of_constants which) [] places none)

pub asks_formulas : QueriesHaveFormulas → (which : Heads) (places : List Place) (described : Described) → first_behind which [] places ≡ None → IsDescribed which places described → AsksFormulas described
asks_formulas of_queries which places described none is =
    of_table HasFormulas described.table is.queries is.table (all_behind which HasFormulas gathers_queries (place_asks of_queries which) [] places none)
