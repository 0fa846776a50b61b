use Rattle.cc_dimacs.proofs.Exported.{exports_are_cnf}
use Rattle.cc_dimacs.proofs.theorems.exports_are_cnf.Goals as goal

pub returns : goal.returns
returns c = exports_are_cnf
