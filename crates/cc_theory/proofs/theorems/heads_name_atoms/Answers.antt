use Rattle.cc_theory.proofs.Meant.{heads_name}
use Rattle.cc_theory.proofs.theorems.heads_name_atoms.Goals as goal

pub returns : goal.returns
returns c = heads_name
