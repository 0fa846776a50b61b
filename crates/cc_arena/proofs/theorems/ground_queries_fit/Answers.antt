use Rattle.cc_arena.proofs.FittingLaws.{query_fits}
use Rattle.cc_arena.proofs.theorems.ground_queries_fit.Goals as goal

pub returns : goal.returns
returns c = query_fits
