use Rattle.std.proofs.Common.{refl}
use Rattle.cc_defs.specs.Trees.{plain_piece, plain_sum}
use Rattle.cc_laws.specs.FreeVariables.{sum_variables, unbound}
use Rattle.cc_laws.specs.Views.{piece_variables}
use Rattle.cc_laws.specs.Vocabulary.{vocabulary_of}
use Rattle.cc_laws.proofs.Fronts.{front_more, front_all}
use Rattle.cc_laws.proofs.Unbound.{begun, sum_begun, unbound_added, unbound_in}
use Rattle.cc_laws.proofs.variables.+unbound.Goals as goal

pub add_unbound-loop-argument-init : goal.add_unbound-loop-argument-init
add_unbound-loop-argument-init t c =
    begun (vocabulary_of c.args.table.now) c.args.bound.now c.args.term.now c.args.found.now.items _ c.deref-argument-items.result.now
    c.in_ok-add_name.ensures c.deref-argument-items.ensures.value

pub add_unbound_sum-loop-addend-init : goal.add_unbound_sum-loop-addend-init
add_unbound_sum-loop-addend-init t c =
    sum_begun (vocabulary_of c.args.table.now) c.args.bound.now c.args.sum.now c.args.found.now.items _ c.deref-addend-items.result.now
    c.in_ok-add_unbound_piece.ensures c.deref-addend-items.ensures.value

pub add_unbound-loop-argument-preserved : goal.add_unbound-loop-argument-preserved
add_unbound-loop-argument-preserved t c =
    front_more (unbound_in (vocabulary_of c.args.table.now) c.args.bound.now) (λ sum. unbound c.args.bound.now (sum_variables (vocabulary_of c.args.table.now) (plain_sum sum)))
    c.deref-argument-items.result.now c.loop-argument.argument-index c.loop-argument.found.items _ c.loop-argument.invariant (λ _ _. refl) c.argument-item.result c.argument-item.result _ c.loop-argument-test.true c.argument-item.is c.in_ok-add_unbound_sum.ensures

pub add_unbound-returns : goal.add_unbound-returns
add_unbound-returns t c =
    front_all (unbound_in (vocabulary_of c.args.table.now) c.args.bound.now) (λ sum. unbound c.args.bound.now (sum_variables (vocabulary_of c.args.table.now) (plain_sum sum)))
    c.deref-argument-items.result.now c.loop-argument.argument-index c.loop-argument.found.items _ c.loop-argument.invariant refl c.loop-argument-test.false

pub add_unbound_sum-loop-addend-preserved : goal.add_unbound_sum-loop-addend-preserved
add_unbound_sum-loop-addend-preserved t c =
    front_more (unbound_added (vocabulary_of c.args.table.now) c.args.bound.now) (λ addend. unbound c.args.bound.now (piece_variables (vocabulary_of c.args.table.now) (plain_piece addend.piece)))
    c.deref-addend-items.result.now c.loop-addend.addend-index c.loop-addend.found.items _ c.loop-addend.invariant (λ _ _. refl) c.addend-item.result c.addend-item.result _ c.loop-addend-test.true c.addend-item.is c.in_ok-add_unbound_piece-2.ensures

pub add_unbound_sum-returns : goal.add_unbound_sum-returns
add_unbound_sum-returns t c =
    front_all (unbound_added (vocabulary_of c.args.table.now) c.args.bound.now) (λ addend. unbound c.args.bound.now (piece_variables (vocabulary_of c.args.table.now) (plain_piece addend.piece)))
    c.deref-addend-items.result.now c.loop-addend.addend-index c.loop-addend.found.items _ c.loop-addend.invariant refl c.loop-addend-test.false
