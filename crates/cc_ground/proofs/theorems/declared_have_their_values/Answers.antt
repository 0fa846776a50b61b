use Rattle.cc_ground.proofs.FromDeclarations.{values_are}
use Rattle.cc_ground.proofs.theorems.declared_have_their_values.Goals as goal

pub returns : goal.returns
returns c = values_are
