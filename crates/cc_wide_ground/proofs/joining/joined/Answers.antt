use Rattle.cc_wide_ground.proofs.Joined.{joined_all}
use Rattle.cc_wide_ground.proofs.joining.joined.Goals as goal

pub returns : goal.returns
returns c =
    joined_all c.args.falsehood.now c.args.laws.now c.args.heads.now c.min-count.result c.loop-index.index _ _
    c.min-count.ensures c.loop-index-test.false c.loop-index.invariant
