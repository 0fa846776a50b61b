use Rattle.cc_arena.proofs.Meaning.{query_means}
use Rattle.cc_arena.proofs.theorems.ground_queries_mean_queries.Goals as goal

pub returns : goal.returns
returns c = query_means
