use Rattle.std.proofs.Common.{◌∙◌, ap, refl, sym}
use Rattle.std.specs.List.{list_any}
use Rattle.cc_laws.specs.Vocabulary.{vocabulary_of}
use Rattle.cc_laws.proofs.ActionNames.{names_action, names_by_args, names_by_symbol, some_names_action}
use Rattle.cc_laws.proofs.Passing.{passed, found, none_left}
use Rattle.cc_laws.proofs.steps.+term_names_action.Goals as goal

pub loop-argument-init : goal.loop-argument-init
loop-argument-init t c =
    let symbols = (vocabulary_of c.args.table.now).symbols in
    names_by_args symbols c.args.term.now c.in-Constant.symbol c.in-Constant.args c.in-Constant.is (sym c.is_action_symbol.ensures ∙ c.if-is_action_symbol.false) ∙ ap (some_names_action symbols) (sym c.deref-argument-items.ensures.value)

pub loop-argument-preserved : goal.loop-argument-preserved
loop-argument-preserved t c = passed (list_any (names_action (vocabulary_of c.args.table.now).symbols)) (names_action (vocabulary_of c.args.table.now).symbols) c.deref-argument-items.result.now c.loop-argument.argument-index _ c.loop-argument.invariant (λ _ _. refl) c.argument-item.result c.loop-argument-test.true c.argument-item.is (sym c.term_names_action.ensures ∙ c.if-term_names_action.false)

pub returns-then-term_names_action : goal.returns-then-term_names_action
returns-then-term_names_action t c = found (list_any (names_action (vocabulary_of c.args.table.now).symbols)) (names_action (vocabulary_of c.args.table.now).symbols) c.deref-argument-items.result.now c.loop-argument.argument-index _ c.loop-argument.invariant (λ _ _. refl) c.argument-item.result c.loop-argument-test.true c.argument-item.is (sym c.term_names_action.ensures ∙ c.if-term_names_action.true)

pub returns-after-loop-argument : goal.returns-after-loop-argument
returns-after-loop-argument t c = none_left (list_any (names_action (vocabulary_of c.args.table.now).symbols)) (names_action (vocabulary_of c.args.table.now).symbols) c.deref-argument-items.result.now c.loop-argument.argument-index _ c.loop-argument.invariant refl c.loop-argument-test.false

pub returns-then-is_action_symbol : goal.returns-then-is_action_symbol
returns-then-is_action_symbol t c =
    sym (names_by_symbol (vocabulary_of c.args.table.now).symbols c.args.term.now c.in-Constant.symbol c.in-Constant.args c.in-Constant.is (sym c.is_action_symbol.ensures ∙ c.if-is_action_symbol.true))
