use Rattle.std.proofs.Common.{◌∙◌, length, ap, arith}
use Rattle.cc_ground.specs.Views.{universe_of}
use Rattle.cc_ground.proofs.Tallies.{choices_step}
use Rattle.cc_ground.proofs.counting.choice_count.Goals as goal

pub loop-range-preserved : goal.loop-range-preserved
loop-range-preserved c = (
  omega arith,
  choices_step (universe_of c.args.table.now c.args.sig.now) c.args.ranges.now c.loop-range.range-index _ c.loop-range.count c.len.result c.times-count.result
      c.loop-range-test.true (c.len.ensures ∙ ap length c.values_in_range.ensures) c.times-count.ensures c.loop-range.invariant.1,
)
