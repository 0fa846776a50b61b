use Rattle.cc_arena.proofs.Meaning.{heads_there}
use Rattle.cc_arena.proofs.theorems.heads_there_are_ground.Goals as goal

pub returns : goal.returns
returns c = heads_there
