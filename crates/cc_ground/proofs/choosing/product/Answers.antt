use Rattle.std.proofs.Common.{arith}
use Rattle.cc_ground.specs.Views.{universe_of}
use Rattle.cc_ground.proofs.Counted.{product_more}
use Rattle.cc_ground.proofs.choosing.product.Goals as goal

pub loop-constant-preserved : goal.loop-constant-preserved
loop-constant-preserved c = (
  omega arith,
  product_more (universe_of c.args.table.now c.args.sig.now) c.args.constants.now c.loop-constant.constant-index c.loop-constant.count c.in_ok-size_of.field-0 c.times-count.result
      c.loop-constant-test.true c.in_ok-size_of.ensures c.times-count.ensures c.loop-constant.invariant.1,
)
