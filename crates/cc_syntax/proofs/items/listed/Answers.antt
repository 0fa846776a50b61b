use Rattle.std.proofs.Common.{◌∙◌, arith}
use Rattle.cc_syntax.proofs.Lists.{listed-stopped, listed-ended, listed-continued, listed-empty}
use Rattle.cc_syntax.proofs.Stops.{out-of-memory}
use Rattle.cc_syntax.proofs.items.listed.Goals as goal

pub returns-in-Err : goal.returns-in-Err
returns-in-Err g c = listed-ended _ _ c.loop.invariant (omega arith) c.in_ok-push.ensures.items c.in_ok-item.ensures c.in-Err.ensures

pub loop-preserved : goal.loop-preserved
loop-preserved g c = listed-continued _ _ c.loop.invariant (omega arith) (omega arith) c.in_ok-push.ensures.items c.in_ok-item.ensures c.in-Ok.ensures

pub returns-in_err-item : goal.returns-in_err-item
returns-in_err-item g c = listed-stopped _ c.from_residual.result c.in_err-item.field-0.0 c.loop.invariant c.from_residual.ensures.1 c.in_err-item.ensures

pub returns-in_err-push : goal.returns-in_err-push
returns-in_err-push g c = out-of-memory _ c.args.tokens.now _ _ c.from_residual-in_err-push.ensures.1

pub returns : goal.returns
returns g c = c.loop.invariant.whole ∙ listed-empty _ _ _ _ _ (omega arith)
