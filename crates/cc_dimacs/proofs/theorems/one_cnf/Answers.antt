use Rattle.cc_dimacs.proofs.Alone.{one_cnf}
use Rattle.cc_dimacs.proofs.theorems.one_cnf.Goals as goal

pub returns : goal.returns
returns c = one_cnf
