use Rattle.std.proofs.Common.{◌∙◌, sym}
use Rattle.cc_sorts.specs.Lefts.{meets}
use Rattle.cc_sorts.proofs.Walks.{any_found, any_later, none_left}
use Rattle.cc_sorts.proofs.left.any_meets.Goals as goal

pub returns-then-meets : goal.returns-then-meets
returns-then-meets c = any_found (meets c.args.low c.args.high c.args.sort.now) c.args.ranges.now c.loop-range.range-index c.loop-range.invariant _ c.loop-range-test.true (sym c.if-meets.true ∙ c.meets.ensures)

pub loop-range-preserved : goal.loop-range-preserved
loop-range-preserved c = any_later (meets c.args.low c.args.high c.args.sort.now) c.args.ranges.now c.loop-range.range-index c.loop-range.invariant _ c.loop-range-test.true (sym c.if-meets.false ∙ c.meets.ensures)

pub returns : goal.returns
returns c = none_left (meets c.args.low c.args.high c.args.sort.now) c.args.ranges.now c.loop-range.range-index c.loop-range.invariant c.loop-range-test.false
