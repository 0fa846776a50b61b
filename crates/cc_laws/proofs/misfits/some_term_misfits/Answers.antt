use Rattle.std.proofs.Common.{true, false, ap, sym, ◌∙◌, refl}
use Rattle.cc_defs.specs.Trees.{plain_piece}
use Rattle.cc_laws.specs.FormulaFaults.{piece_term_misfits}
use Rattle.cc_laws.specs.Vocabulary.{vocabulary_of}
use Rattle.cc_laws.proofs.Fitted.{pieces_by, some_addend}
use Rattle.cc_laws.proofs.Passing.{passed, found, none_left}
use Rattle.cc_laws.proofs.misfits.some_term_misfits.Goals as goal

pub returns-then-piece_term_misfits : goal.returns-then-piece_term_misfits
returns-then-piece_term_misfits c = sym (pieces_by (piece_term_misfits (vocabulary_of c.args.table.now)) c.args.sum.now true (sym c.piece_term_misfits.ensures ∙ c.if-piece_term_misfits.true))

pub loop-addend-init : goal.loop-addend-init
loop-addend-init c =
    pieces_by (piece_term_misfits (vocabulary_of c.args.table.now)) c.args.sum.now false (sym c.piece_term_misfits.ensures ∙ c.if-piece_term_misfits.false)
    ∙ ap (some_addend (piece_term_misfits (vocabulary_of c.args.table.now))) (sym c.deref-addend-items.ensures.value)

pub loop-addend-preserved : goal.loop-addend-preserved
loop-addend-preserved c =
    passed (some_addend (piece_term_misfits (vocabulary_of c.args.table.now))) (λ addend. piece_term_misfits (vocabulary_of c.args.table.now) (plain_piece addend.piece)) c.deref-addend-items.result.now c.loop-addend.addend-index _ c.loop-addend.invariant (λ _ _. refl)
    c.addend-item.result c.loop-addend-test.true c.addend-item.is (sym c.piece_term_misfits-in-loop-addend.ensures ∙ c.if-piece_term_misfits-2.false)

pub returns-then-piece_term_misfits-2 : goal.returns-then-piece_term_misfits-2
returns-then-piece_term_misfits-2 c =
    found (some_addend (piece_term_misfits (vocabulary_of c.args.table.now))) (λ addend. piece_term_misfits (vocabulary_of c.args.table.now) (plain_piece addend.piece)) c.deref-addend-items.result.now c.loop-addend.addend-index _ c.loop-addend.invariant (λ _ _. refl)
    c.addend-item.result c.loop-addend-test.true c.addend-item.is (sym c.piece_term_misfits-in-loop-addend.ensures ∙ c.if-piece_term_misfits-2.true)

pub returns : goal.returns
returns c = none_left (some_addend (piece_term_misfits (vocabulary_of c.args.table.now))) (λ addend. piece_term_misfits (vocabulary_of c.args.table.now) (plain_piece addend.piece)) c.deref-addend-items.result.now c.loop-addend.addend-index _ c.loop-addend.invariant refl c.loop-addend-test.false
