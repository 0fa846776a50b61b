use Rattle.cc_trail.proofs.Ranking.{two_of_front}
use Rattle.cc_trail.proofs.watches.best_two.Goals as goal

pub returns : goal.returns
returns c = two_of_front c.args.clause.now c.loop-index.index c.loop-index.best.first.lit c.loop-index.best.second.lit c.loop-index.invariant
