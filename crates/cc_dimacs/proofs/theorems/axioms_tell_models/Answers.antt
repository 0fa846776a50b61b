use Rattle.cc_dimacs.proofs.Models.{axioms_tell_models}
use Rattle.cc_dimacs.proofs.theorems.axioms_tell_models.Goals as goal

pub returns : goal.returns
returns c = axioms_tell_models
