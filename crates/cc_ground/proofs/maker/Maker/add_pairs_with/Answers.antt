use Rattle.std.proofs.Common.{refl}
use Rattle.cc_ground.proofs.Making.{pair_made, pairs_made}
use Rattle.cc_ground.proofs.maker.Maker.add_pairs_with.Goals as goal

pub loop-other-preserved : goal.loop-other-preserved
loop-other-preserved c = pair_made c.args.base c.args.one c.args.others.now c.loop-other.other-index _ c.loop-other.invariant c.loop-other-test.true refl c.in_ok-add_pair.ensures.made

pub returns-clause-made : goal.returns-clause-made
returns-clause-made c = pairs_made c.args.base c.args.one c.args.others.now c.loop-other.other-index c.loop-other.invariant c.loop-other-test.false
