use Rattle.cc_ground.proofs.FromDeclarations.{distinct}
use Rattle.cc_ground.proofs.theorems.declared_have_own_values.Goals as goal

pub returns : goal.returns
returns c declarations few = distinct declarations few
