use Rattle.cc_arena.proofs.Meaning.{laws_mean}
use Rattle.cc_arena.proofs.theorems.ground_laws_mean_laws.Goals as goal

pub returns : goal.returns
returns c = laws_mean
