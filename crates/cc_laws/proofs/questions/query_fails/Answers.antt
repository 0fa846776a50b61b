use Rattle.std.proofs.Common.{◌∙◌, ap, map, refl, sym}
use Rattle.std.specs.List.{list_any}
use Rattle.std.specs.Prelude.{flat_map}
use Rattle.std.proofs.lemmas.List.Folds.{list_any-append}
use Rattle.cc_defs.specs.Trees.{plain_query_item}
use Rattle.cc_laws.specs.Questions.{formulas_in}
use Rattle.cc_laws.specs.Views.{fails}
use Rattle.cc_laws.specs.Vocabulary.{vocabulary_of}
use Rattle.cc_laws.proofs.Passing.{passed, found, none_left}
use Rattle.cc_laws.proofs.questions.query_fails.Goals as goal

pub loop-item-preserved : goal.loop-item-preserved
loop-item-preserved c =
    let test = fails (vocabulary_of c.args.table.now) c.args.check in
    sym (passed (λ items. list_any test (flat_map formulas_in (map plain_query_item items))) (λ item. list_any test (formulas_in (plain_query_item item))) c.args.items.now c.loop-item.item-index _ (sym c.loop-item.invariant) (λ item others. list_any-append test (formulas_in (plain_query_item item)) (flat_map formulas_in (map plain_query_item others))) c.item-item.result c.loop-item-test.true c.item-item.is (ap (list_any test) (sym c.formulas_in.ensures) ∙ sym c.some_fails.ensures ∙ c.if-some_fails.false))

pub returns-then-some_fails : goal.returns-then-some_fails
returns-then-some_fails c =
    let test = fails (vocabulary_of c.args.table.now) c.args.check in
    found (λ items. list_any test (flat_map formulas_in (map plain_query_item items))) (λ item. list_any test (formulas_in (plain_query_item item))) c.args.items.now c.loop-item.item-index _ (sym c.loop-item.invariant) (λ item others. list_any-append test (formulas_in (plain_query_item item)) (flat_map formulas_in (map plain_query_item others))) c.item-item.result c.loop-item-test.true c.item-item.is (ap (list_any test) (sym c.formulas_in.ensures) ∙ sym c.some_fails.ensures ∙ c.if-some_fails.true)

pub returns : goal.returns
returns c =
    let test = fails (vocabulary_of c.args.table.now) c.args.check in
    none_left (λ items. list_any test (flat_map formulas_in (map plain_query_item items))) (λ item. list_any test (formulas_in (plain_query_item item))) c.args.items.now c.loop-item.item-index _ (sym c.loop-item.invariant) refl c.loop-item-test.false
