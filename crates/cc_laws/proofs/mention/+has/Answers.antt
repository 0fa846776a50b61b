use Rattle.std.proofs.Common.{◌∙◌, true, false, ap, refl, rules, sym}
use Rattle.std.specs.List.{list_any}
use Rattle.cc_defs.specs.Trees.{plain_piece, plain_sum}
use Rattle.cc_laws.specs.FormulaFaults.{sum_has}
use Rattle.cc_laws.specs.Views.{asks, piece_has, plain_meaning}
use Rattle.cc_laws.specs.Vocabulary.{vocabulary_of}
use Rattle.cc_laws.proofs.Mentions.{sums_have, addends_have, has_by, sum_has_by}
use Rattle.cc_laws.proofs.Passing.{passed, found, none_left}
use Rattle.cc_laws.proofs.mention.+has.Goals as goal

pub term_has-returns-then-has : goal.term_has-returns-then-has
term_has-returns-then-has t c =
    sym (has_by (vocabulary_of c.args.table.now) (asks c.args.property) c.args.term.now (plain_meaning c.meaning_of.result) c.len.result true c.meaning_of.ensures (search rules) (sym c.has.ensures ∙ c.if-has.true))

pub term_has-loop-argument-init : goal.term_has-loop-argument-init
term_has-loop-argument-init t c =
    has_by (vocabulary_of c.args.table.now) (asks c.args.property) c.args.term.now (plain_meaning c.meaning_of.result) c.len.result false c.meaning_of.ensures (search rules) (sym c.has.ensures ∙ c.if-has.false)
    ∙ ap (sums_have (vocabulary_of c.args.table.now) (asks c.args.property)) (sym c.deref-argument-items.ensures.value)

pub sum_has-returns-then-piece_has : goal.sum_has-returns-then-piece_has
sum_has-returns-then-piece_has t c = sym (sum_has_by (vocabulary_of c.args.table.now) (asks c.args.property) c.args.sum.now true (sym c.piece_has.ensures ∙ c.if-piece_has.true))

pub sum_has-loop-addend-init : goal.sum_has-loop-addend-init
sum_has-loop-addend-init t c =
    sum_has_by (vocabulary_of c.args.table.now) (asks c.args.property) c.args.sum.now false (sym c.piece_has.ensures ∙ c.if-piece_has.false)
    ∙ ap (addends_have (vocabulary_of c.args.table.now) (asks c.args.property)) (sym c.deref-addend-items.ensures.value)

pub term_has-loop-argument-preserved : goal.term_has-loop-argument-preserved
term_has-loop-argument-preserved t c = passed (list_any (λ sum. sum_has (vocabulary_of c.args.table.now) (asks c.args.property) (plain_sum sum))) (λ sum. sum_has (vocabulary_of c.args.table.now) (asks c.args.property) (plain_sum sum)) c.deref-argument-items.result.now c.loop-argument.argument-index _ c.loop-argument.invariant (λ _ _. refl) c.argument-item.result c.loop-argument-test.true c.argument-item.is (sym c.sum_has.ensures ∙ c.if-sum_has.false)

pub term_has-returns-then-sum_has : goal.term_has-returns-then-sum_has
term_has-returns-then-sum_has t c = found (list_any (λ sum. sum_has (vocabulary_of c.args.table.now) (asks c.args.property) (plain_sum sum))) (λ sum. sum_has (vocabulary_of c.args.table.now) (asks c.args.property) (plain_sum sum)) c.deref-argument-items.result.now c.loop-argument.argument-index _ c.loop-argument.invariant (λ _ _. refl) c.argument-item.result c.loop-argument-test.true c.argument-item.is (sym c.sum_has.ensures ∙ c.if-sum_has.true)

pub term_has-returns : goal.term_has-returns
term_has-returns t c = none_left (list_any (λ sum. sum_has (vocabulary_of c.args.table.now) (asks c.args.property) (plain_sum sum))) (λ sum. sum_has (vocabulary_of c.args.table.now) (asks c.args.property) (plain_sum sum)) c.deref-argument-items.result.now c.loop-argument.argument-index _ c.loop-argument.invariant refl c.loop-argument-test.false

pub sum_has-loop-addend-preserved : goal.sum_has-loop-addend-preserved
sum_has-loop-addend-preserved t c = passed (list_any (λ addend. piece_has (vocabulary_of c.args.table.now) (asks c.args.property) (plain_piece addend.piece))) (λ addend. piece_has (vocabulary_of c.args.table.now) (asks c.args.property) (plain_piece addend.piece)) c.deref-addend-items.result.now c.loop-addend.addend-index _ c.loop-addend.invariant (λ _ _. refl) c.addend-item.result c.loop-addend-test.true c.addend-item.is (sym c.piece_has-in-loop-addend.ensures ∙ c.if-piece_has-2.false)

pub sum_has-returns : goal.sum_has-returns
sum_has-returns t c = none_left (list_any (λ addend. piece_has (vocabulary_of c.args.table.now) (asks c.args.property) (plain_piece addend.piece))) (λ addend. piece_has (vocabulary_of c.args.table.now) (asks c.args.property) (plain_piece addend.piece)) c.deref-addend-items.result.now c.loop-addend.addend-index _ c.loop-addend.invariant refl c.loop-addend-test.false

pub sum_has-returns-then-piece_has-2 : goal.sum_has-returns-then-piece_has-2
sum_has-returns-then-piece_has-2 t c = found (list_any (λ addend. piece_has (vocabulary_of c.args.table.now) (asks c.args.property) (plain_piece addend.piece))) (λ addend. piece_has (vocabulary_of c.args.table.now) (asks c.args.property) (plain_piece addend.piece)) c.deref-addend-items.result.now c.loop-addend.addend-index _ c.loop-addend.invariant (λ _ _. refl) c.addend-item.result c.loop-addend-test.true c.addend-item.is (sym c.piece_has-in-loop-addend.ensures ∙ c.if-piece_has-2.true)
