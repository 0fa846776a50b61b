use Rattle.cc_ground.proofs.Tallies.{pairs_counted}
use Rattle.cc_ground.proofs.counting.pair_count.Goals as goal

pub returns : goal.returns
returns c = λ xs e. pairs_counted xs c.args.number c.min-number.result c.saturating_sub.result c.min.result e c.min-number.ensures c.saturating_sub.ensures c.min.ensures
