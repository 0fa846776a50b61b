use Rattle.cc_ground.proofs.FromDeclarations.{kinds_are}
use Rattle.cc_ground.proofs.theorems.declared_have_their_kinds.Goals as goal

pub returns : goal.returns
returns c = kinds_are
