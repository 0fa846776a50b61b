use Rattle.cc_arena.proofs.Meaning.{head_means}
use Rattle.cc_arena.proofs.theorems.heads_mean_heads.Goals as goal

pub returns : goal.returns
returns c = head_means
