use Rattle.std.proofs.Common.{◌∙◌, [], arith}
use Rattle.cc_syntax.proofs.Stops.{stopped}
use Rattle.cc_syntax.proofs.Turning.{ended-so, turned-on, turned_out, turns-not, turns-spent}
use Rattle.cc_syntax.proofs.formulas.run.Goals as goal

pub loop-preserved : goal.loop-preserved
loop-preserved c = c.loop.invariant ∙ turned-on _ _ _ _ (omega arith) (omega arith) c.in_ok-turn-in_default.ensures

pub returns : goal.returns
returns c = c.loop.invariant ∙ turns-spent c.args.tokens.now _ c.loop.turn _ (omega arith) c.in_default-turn.not-Ends

pub returns-in-Ends : goal.returns-in-Ends
returns-in-Ends c = ended-so c.args.tokens.now _ _ c.loop.turn _ _ c.loop.invariant c.in-Ends.is

pub returns-in-Ends-turn : goal.returns-in-Ends-turn
returns-in-Ends-turn c = ended-so c.args.tokens.now _ _ c.loop.turn _ _ c.loop.invariant c.in-Ends-turn.is

pub returns-in_err-turn-in_default : goal.returns-in_err-turn-in_default
returns-in_err-turn-in_default c =
    stopped _ c.args.tokens.now c.from_residual.result c.in_err-turn-in_default.field-0.0 _ c.from_residual.ensures.1
    (λ e. c.loop.invariant ∙ turned_out _ _ (omega arith) (turns-not c.args.tokens.now [] _ _ c.in_err-turn-in_default.ensures e))
