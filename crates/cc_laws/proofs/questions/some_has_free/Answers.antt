use Rattle.std.proofs.Common.{◌∙◌, map, refl, sym}
use Rattle.std.specs.List.{list_any}
use Rattle.cc_defs.specs.Trees.{plain_tree}
use Rattle.cc_laws.specs.Questions.{has_free}
use Rattle.cc_laws.specs.Vocabulary.{vocabulary_of}
use Rattle.cc_laws.proofs.Passing.{passed, found, none_left}
use Rattle.cc_laws.proofs.questions.some_has_free.Goals as goal

pub loop-formula-preserved : goal.loop-formula-preserved
loop-formula-preserved c =
    let test = has_free (vocabulary_of c.args.table.now) in
    sym (passed (λ formulas. list_any test (map plain_tree formulas)) (λ formula. test (plain_tree formula)) c.args.formulas.now c.loop-formula.formula-index _ (sym c.loop-formula.invariant) (λ _ _. refl) c.formula-item.result c.loop-formula-test.true c.formula-item.is (sym c.in_ok-has_free.ensures ∙ c.if-branch.false))

pub returns-then-branch : goal.returns-then-branch
returns-then-branch c =
    let test = has_free (vocabulary_of c.args.table.now) in
    found (λ formulas. list_any test (map plain_tree formulas)) (λ formula. test (plain_tree formula)) c.args.formulas.now c.loop-formula.formula-index _ (sym c.loop-formula.invariant) (λ _ _. refl) c.formula-item.result c.loop-formula-test.true c.formula-item.is (sym c.in_ok-has_free.ensures ∙ c.if-branch.true)

pub returns : goal.returns
returns c =
    let test = has_free (vocabulary_of c.args.table.now) in
    none_left (λ formulas. list_any test (map plain_tree formulas)) (λ formula. test (plain_tree formula)) c.args.formulas.now c.loop-formula.formula-index _ (sym c.loop-formula.invariant) refl c.loop-formula-test.false
