use Rattle.std.proofs.Common.{◌∙◌, map, refl, sym}
use Rattle.std.specs.List.{list_any}
use Rattle.cc_defs.specs.Trees.{plain_tree}
use Rattle.cc_laws.specs.Views.{fails}
use Rattle.cc_laws.specs.Vocabulary.{vocabulary_of}
use Rattle.cc_laws.proofs.Passing.{passed, found, none_left}
use Rattle.cc_laws.proofs.questions.some_fails.Goals as goal

pub loop-formula-preserved : goal.loop-formula-preserved
loop-formula-preserved c =
    let test = fails (vocabulary_of c.args.table.now) c.args.check in
    sym (passed (λ formulas. list_any test (map plain_tree formulas)) (λ formula. test (plain_tree formula)) c.args.formulas.now c.loop-formula.formula-index _ (sym c.loop-formula.invariant) (λ _ _. refl) c.formula-item.result c.loop-formula-test.true c.formula-item.is (sym c.formula_fails.ensures ∙ c.if-formula_fails.false))

pub returns-then-formula_fails : goal.returns-then-formula_fails
returns-then-formula_fails c =
    let test = fails (vocabulary_of c.args.table.now) c.args.check in
    found (λ formulas. list_any test (map plain_tree formulas)) (λ formula. test (plain_tree formula)) c.args.formulas.now c.loop-formula.formula-index _ (sym c.loop-formula.invariant) (λ _ _. refl) c.formula-item.result c.loop-formula-test.true c.formula-item.is (sym c.formula_fails.ensures ∙ c.if-formula_fails.true)

pub returns : goal.returns
returns c =
    let test = fails (vocabulary_of c.args.table.now) c.args.check in
    none_left (λ formulas. list_any test (map plain_tree formulas)) (λ formula. test (plain_tree formula)) c.args.formulas.now c.loop-formula.formula-index _ (sym c.loop-formula.invariant) refl c.loop-formula-test.false
