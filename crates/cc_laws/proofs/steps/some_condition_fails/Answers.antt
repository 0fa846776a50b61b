use Rattle.std.proofs.Common.{◌∙◌, map, refl, sym}
use Rattle.std.specs.List.{list_any}
use Rattle.cc_defs.specs.Resolved.{plain_condition}
use Rattle.cc_laws.specs.Questions.{condition_fails}
use Rattle.cc_laws.specs.Vocabulary.{vocabulary_of}
use Rattle.cc_laws.proofs.Passing.{passed, found, none_left}
use Rattle.cc_laws.proofs.steps.some_condition_fails.Goals as goal

pub loop-condition-preserved : goal.loop-condition-preserved
loop-condition-preserved c =
    let test = condition_fails (vocabulary_of c.args.table.now).symbols c.args.lo in
    sym (passed (λ conditions. list_any test (map plain_condition conditions)) (λ condition. test (plain_condition condition)) c.args.conditions.now c.loop-condition.condition-index _ (sym c.loop-condition.invariant) (λ _ _. refl) c.condition-item.result c.loop-condition-test.true c.condition-item.is (sym c.condition_fails.ensures ∙ c.if-condition_fails.false))

pub returns-then-condition_fails : goal.returns-then-condition_fails
returns-then-condition_fails c =
    let test = condition_fails (vocabulary_of c.args.table.now).symbols c.args.lo in
    found (λ conditions. list_any test (map plain_condition conditions)) (λ condition. test (plain_condition condition)) c.args.conditions.now c.loop-condition.condition-index _ (sym c.loop-condition.invariant) (λ _ _. refl) c.condition-item.result c.loop-condition-test.true c.condition-item.is (sym c.condition_fails.ensures ∙ c.if-condition_fails.true)

pub returns : goal.returns
returns c =
    let test = condition_fails (vocabulary_of c.args.table.now).symbols c.args.lo in
    none_left (λ conditions. list_any test (map plain_condition conditions)) (λ condition. test (plain_condition condition)) c.args.conditions.now c.loop-condition.condition-index _ (sym c.loop-condition.invariant) refl c.loop-condition-test.false
