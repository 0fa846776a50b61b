use Rattle.cc_arena.proofs.FittingLaws.{laws_fit}
use Rattle.cc_arena.proofs.theorems.ground_laws_fit.Goals as goal

pub returns : goal.returns
returns c = laws_fit
