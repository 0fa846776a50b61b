use Rattle.std.proofs.Common.{◌-◌, List, Some, drop, ap, sym, ◌∙◌, arith, Option}
use Rattle.cc_defs.specs.Trees.{PlainSum, PlainTerm, plain_piece, plain_sum, PlainPiece, Summed}
use Rattle.cc_syntax.specs.Terms.{term_from, args_from, PlainAddend, addends_by, addends_of}
use Rattle.cc_syntax.specs.Views.{seen}
use Rattle.cc_syntax.proofs.Addends.{addends-ended, addends-spent, addends-refused, addends-continued}
use Rattle.cc_syntax.proofs.Arguments.{arg-more, arg-refused, args-unended, args-read, args-spent}
use Rattle.cc_syntax.proofs.Stops.{stopped, out-of-memory, no-tree, not-passed}
use Rattle.cc_syntax.proofs.Trees.{plain_pushed, plain_applied, sum_made}
use Rattle.cc_defs.specs.Grammar.{Terminal}
use Rattle.cc_syntax.specs.Readers.{◌>>=◌}
use Rattle.cc_syntax.proofs.terms.+terms.Goals as goal

pub addends_within-returns-in_err-piece : goal.addends_within-returns-in_err-piece
addends_within-returns-in_err-piece t c =
    stopped _ c.args.tokens.now c.from_residual.result c.in_err-piece.field-0.0 _ c.from_residual.ensures.1
    (λ e. c.loop.invariant ∙ addends-refused (term_from c.args.steps) _ _ _ _ _ (omega arith) (sym c.in-Some.ensures) (no-tree plain_piece c.args.tokens.now _ _ c.in_err-piece.ensures e))

pub addends_within-returns-in_err-push : goal.addends_within-returns-in_err-push
addends_within-returns-in_err-push t c = out-of-memory _ c.args.tokens.now _ _ c.from_residual-in_err-push.ensures.1

pub addends_within-loop-preserved : goal.addends_within-loop-preserved
addends_within-loop-preserved t c =
    addends-continued (term_from c.args.steps) _ _ _ _ _ _ _ _ _ c.loop.invariant (omega arith) (omega arith) c.in_ok-push.ensures.items (sym c.in-Some.ensures) c.in_ok-piece.ensures

pub addends_within-returns-in_default : goal.addends_within-returns-in_default
addends_within-returns-in_default t c = c.loop.invariant ∙ addends-ended (term_from c.args.steps) _ _ _ (sym c.in_default.ensures)

pub addends_within-returns : goal.addends_within-returns
addends_within-returns t c = c.loop.invariant ∙ addends-spent (term_from c.args.steps) _ _ _ (omega arith)

pub term_within-returns-in_err-arg : goal.term_within-returns-in_err-arg
term_within-returns-in_err-arg t c =
    stopped _ c.args.tokens.now c.from_residual.result c.in_err-arg.field-0.0 _ c.from_residual.ensures.1
    (λ e. arg-refused c.args.steps _ _ _ (omega arith) c.in-Ok.ensures _ _ _ (omega arith) c.loop-left.invariant.0 (no-tree plain_sum c.args.tokens.now _ _ c.in_err-arg.ensures e))

pub term_within-returns-in_err-push : goal.term_within-returns-in_err-push
term_within-returns-in_err-push t c = out-of-memory _ c.args.tokens.now _ _ c.from_residual-in_err-push.ensures.1

pub term_within-returns : goal.term_within-returns
term_within-returns t c = args-spent c.args.steps _ _ _ (omega arith) c.in-Ok.ensures _ _ _ (omega arith) c.loop-left.invariant.0

pub term_within-loop-left-preserved : goal.term_within-loop-left-preserved
term_within-loop-left-preserved t c = (
  c.loop-left.invariant.0
      ∙ arg-more _ _ _ (omega arith) _ _ c.in_ok-arg.ensures _ c.in-Ok-sign.ensures
      ∙ ap (λ (found : List PlainSum). args_from (c.loop-left.left - 1) found (drop c.in-Ok-sign.behind (seen c.args.tokens.now)))
      (sym (plain_pushed plain_sum c.loop-left.args.items c.push.new.self.items c.in_ok-arg.arg c.in_ok-push.ensures.items)),
  (let least = c.loop-left.invariant.1 in omega arith),
)

pub term_within-returns-in_err-end-in-Err : goal.term_within-returns-in_err-end-in-Err
term_within-returns-in_err-end-in-Err t c =
    stopped _ c.args.tokens.now c.from_residual-in_err-end-in-Err.result c.in_err-end-in-Err.field-0.0 _ c.from_residual-in_err-end-in-Err.ensures.1
    (λ e. args-unended c.args.steps _ _ _ (omega arith) c.in-Ok.ensures _ _ _ (omega arith) c.loop-left.invariant.0 _ _ c.in_ok-arg.ensures
    (not-passed c.args.tokens.now _ _ c.in-Err.ensures) (not-passed c.args.tokens.now _ _ c.in_err-end-in-Err.ensures))

pub term_within-returns-in-Err : goal.term_within-returns-in-Err
term_within-returns-in-Err t c =
    args-read c.args.steps _ _ _ (omega arith) c.in-Ok.ensures _ _ _ (omega arith) c.loop-left.invariant.0 _ _ c.in_ok-arg.ensures
    _ (not-passed c.args.tokens.now _ _ c.in-Err.ensures) c.in_ok-end-in-Err.ensures
    ∙ ap (λ (term : PlainTerm). Some (term, drop c.in_ok-end-in-Err.end (seen c.args.tokens.now)))
    (plain_applied (record { name = c.in-Ok.call.0; args = c.push.new.self }) c.loop-left.args.items c.in_ok-arg.arg c.in_ok-push.ensures.items)

pub sum_within-returns : goal.sum_within-returns
sum_within-returns t c =
    ap (λ (o : Option (PlainPiece × List Terminal)). o >>= λ first. addends_by (term_from c.args.steps) first.1 >>= λ others. Some (Summed first.0 (addends_of others.0), others.1)) c.in_ok-first.ensures
    ∙ ap (λ (o : Option (List PlainAddend × List Terminal)). o >>= λ others. Some (Summed (plain_piece c.in_ok-first.first) (addends_of others.0), others.1)) c.in_ok-rest.ensures
    ∙ sym (ap (λ (sum : PlainSum). Some (sum, drop c.in_ok-rest.next (seen c.args.tokens.now))) (sum_made (record { first = c.in_ok-first.first; rest = c.in_ok-rest.rest })))
