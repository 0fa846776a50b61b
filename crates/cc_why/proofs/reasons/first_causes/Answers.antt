use Rattle.std.proofs.Common.{arith}
use Rattle.cc_why.proofs.Values.{value_pushed}
use Rattle.cc_why.specs.Noting.{first_of}
use Rattle.cc_why.proofs.reasons.first_causes.Goals as goal

pub first_cause-requires : goal.first_cause-requires
first_cause-requires c = c.requires (omega arith)

pub loop-position-preserved : goal.loop-position-preserved
loop-position-preserved c = value_pushed (first_of c.args.sig.now) _ _ _ _ c.loop-position.invariant c.first_cause.ensures c.in_ok-push.ensures.items
