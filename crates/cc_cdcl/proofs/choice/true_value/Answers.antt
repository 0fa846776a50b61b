use Rattle.std.proofs.Common.{arith}
use Rattle.cc_trail.specs.Steps.{values_of}
use Rattle.cc_cdcl.proofs.Placing.{index_here, index_on, not_given}
use Rattle.cc_cdcl.proofs.choice.true_value.Goals as goal

pub loop-value-preserved : goal.loop-value-preserved
loop-value-preserved c =
    let on = index_on (values_of c.args.trail.now.steps) c.args.first c.args.size c.loop-value.value (c.loop-value-test.true)
    (not_given c.is_given.result c.is_given.ensures.1 c.if-is_given.false) in
    let so_far = c.loop-value.invariant in omega arith

pub returns-then-is_given : goal.returns-then-is_given
returns-then-is_given c =
    let here = index_here (values_of c.args.trail.now.steps) c.args.first c.args.size c.loop-value.value (c.loop-value-test.true)
    (c.is_given.ensures.0 c.if-is_given.true) in
    let so_far = c.loop-value.invariant in omega arith
