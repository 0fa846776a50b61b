-- What a check and an expansion find where heads may be of any form.
use Rattle.std.proofs.Common.{◌≡◌, ◌∙◌, ℕ, Bool, true, false, List, [], ◌∷◌, ◌++◌, Option, Some, None, refl, sym, ap}
use Rattle.std.specs.Prelude.{if◌then◌else◌}
use Rattle.std.specs.Option.{option_or}
use Rattle.cc_defs.specs.Declarations.{Declaration}
use Rattle.cc_defs.specs.Refusals.{least, refused_if}
use Rattle.cc_defs.specs.Trees.{PlainLaw, PlainPart, PlainStatement, PlainTree}
use Rattle.cc_sorts.specs.Tables.{TableView, IsTable}
use Rattle.cc_wide.specs.WideLaws.{WideBase}
use Rattle.cc_laws.specs.LawFaults.{has_indefinite_head, law_faults}
use Rattle.cc_laws.specs.Vocabulary.{Vocabulary, vocabulary, vocabulary_of}
use Rattle.cc_laws.specs.Widening.{wide_faults, wide_laws, wide_part_fault, wide_refusal}
use Rattle.cc_laws.proofs.Vocabularies.{same_vocabulary}

-- ---- the least of tests with one more behind them

by_first : (b : Bool) (number : ℕ) (rest more : Option ℕ) →
    (if b then Some number else option_or rest more) ≡ option_or (if b then Some number else rest) more
by_first true number rest more = refl
by_first false number rest more = refl

least_behind : (tests more : List (ℕ × Bool)) → least (tests ++ more) ≡ option_or (least tests) (least more)
least_behind [] more = refl
least_behind (test ∷ tests) more =
    ap (λ (o : Option ℕ). if test.1 then Some test.0 else o) (least_behind tests more) ∙ by_first test.1 test.0 (least tests) (least more)

-- the least fault of a law: the least of the others, or that its head is not definite
pub least_fault : (v : Vocabulary) (law : PlainLaw) (tests : List PlainTree) (early : Option ℕ) → early ≡ least (wide_faults v law tests) →
    least (law_faults v law tests) ≡ option_or early (if has_indefinite_head v law then Some 11 else None)
least_fault v law tests early found =
    least_behind (wide_faults v law tests) ((11, has_indefinite_head v law) ∷ [])
    ∙ ap (λ (o : Option ℕ). option_or o (if has_indefinite_head v law then Some 11 else None)) (sym found)

-- ---- by a table, and by its declarations

pub wide_refused : (file : ℕ) (table : TableView) (left : List Declaration) (statement : PlainStatement) (fault : Option ℕ) → IsTable table left →
    fault ≡ wide_part_fault (vocabulary_of table) statement.part → wide_refusal file (vocabulary left) statement ≡ refused_if file statement.line fault
wide_refused file table left statement fault is found =
    ap (λ (v : Vocabulary). wide_refusal file v statement) (sym (same_vocabulary table left is))
    ∙ ap (refused_if file statement.line) (sym found)

pub widened_so : (file : ℕ) (table : TableView) (left : List Declaration) (line : ℕ) (part : PlainPart) (laws : List WideBase) → IsTable table left →
    laws ≡ wide_laws file (vocabulary_of table) line part → laws ≡ wide_laws file (vocabulary left) line part
widened_so file table left line part laws is e = e ∙ ap (λ (v : Vocabulary). wide_laws file v line part) (same_vocabulary table left is)
