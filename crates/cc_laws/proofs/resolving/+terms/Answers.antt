use Rattle.std.proofs.Common.{◌∙◌, List, ap}
use Rattle.cc_defs.specs.declared.tree.SumTree.{SumTree}
use Rattle.cc_defs.specs.Resolved.{plain_term}
use Rattle.cc_defs.specs.Trees.{plain_sum, plain_piece}
use Rattle.cc_laws.specs.Resolving.{resolve_sums}
use Rattle.cc_laws.specs.Views.{plain_sums, scope_of, row_terms}
use Rattle.cc_laws.specs.Vocabulary.{vocabulary_of}
use Rattle.cc_laws.proofs.TermRows.{resolved_more, resolved_all, term_resolved, sum_begun, addend_more, addends_done, behind}
use Rattle.cc_defs.specs.declared.formula.Term.{Term as Kept}
use Rattle.cc_laws.proofs.resolving.+terms.Goals as goal

pub resolve_term-loop-argument-preserved : goal.resolve_term-loop-argument-preserved
resolve_term-loop-argument-preserved t c =
    let v = vocabulary_of c.args.table.now in
    let scope = (scope_of c.args.names.now) in
    resolved_more v scope _ _ c.argument-item.result _ _ _ _ c.loop-argument-test.true c.argument-item.is c.in_ok-push.ensures.items c.in_ok-resolve_sum.ensures c.loop-argument.invariant

pub resolve_term-returns : goal.resolve_term-returns
resolve_term-returns t c =
    let v = vocabulary_of c.args.table.now in
    let scope = (scope_of c.args.names.now) in
    let whole = resolved_all v scope c.deref-argument-items.result.now c.loop-argument.argument-index c.loop-argument.args.items _ c.loop-argument-test.false c.loop-argument.invariant in
    c.term_meant.ensures
    ∙ term_resolved v scope c.args.term.now _ _ c.meaning_of.ensures (whole ∙ ap (λ (args : List SumTree). resolve_sums v scope (plain_sums args)) c.deref-argument-items.ensures.value)

pub resolve_sum-loop-addend-init : goal.resolve_sum-loop-addend-init
resolve_sum-loop-addend-init t c =
    sum_begun (vocabulary_of c.args.table.now) (scope_of c.args.names.now) c.args.sum.now (plain_term c.in_ok-made.made) c.deref-addend-items.result.now
    c.in_ok-made.ensures c.deref-addend-items.ensures.value

pub resolve_sum-loop-addend-preserved : goal.resolve_sum-loop-addend-preserved
resolve_sum-loop-addend-preserved t c =
    let v = vocabulary_of c.args.table.now in
    let scope = (scope_of c.args.names.now) in
    let d = c.addend-item.result in
    addend_more v scope c.deref-addend-items.result.now c.loop-addend.addend-index d _ _ _ _ _ c.loop-addend-test.true c.addend-item.is
    (ap plain_term c.in_ok-first.ensures.ok) (ap plain_term c.in_ok-second.ensures.ok ∙ c.in_ok-resolve_piece.ensures)
    c.joined-made.ensures c.loop-addend.invariant

pub resolve_sum-returns : goal.resolve_sum-returns
resolve_sum-returns t c = addends_done (vocabulary_of c.args.table.now) (scope_of c.args.names.now) c.deref-addend-items.result.now c.loop-addend.addend-index _ _ c.loop-addend-test.false c.loop-addend.invariant

pub resolve_term-loop-argument-init : goal.resolve_term-loop-argument-init
resolve_term-loop-argument-init t c =
    ap (λ (args : List Kept). behind (row_terms args) (resolve_sums (vocabulary_of c.args.table.now) (scope_of c.args.names.now) (plain_sums c.deref-argument-items.result.now))) c.in_ok-args.ensures.items
