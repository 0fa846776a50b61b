use Rattle.std.proofs.Common.{None, unwrap_or}
use Rattle.cc_why.proofs.Values.{item_pushed}
use Rattle.cc_why.specs.declared.cause.Cause.TheVariants as kinds
use Rattle.cc_why.proofs.reasons.all_there.Goals as goal

pub loop-cause-preserved : goal.loop-cause-preserved
loop-cause-preserved c =
    item_pushed (λ cause. unwrap_or cause kinds.OneValue) c.args.causes.now _ _ _ _ None _ c.loop-cause-test.true c.loop-cause.invariant c.unwrap_or.ensures c.in_ok-push.ensures.items
