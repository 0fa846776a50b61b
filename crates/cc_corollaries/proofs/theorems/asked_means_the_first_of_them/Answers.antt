use Rattle.cc_corollaries.proofs.CnfRuns.{first_of_them}
use Rattle.cc_corollaries.proofs.theorems.asked_means_the_first_of_them.Goals as goal

pub returns : goal.returns
returns c = first_of_them c.one_cnf.ensures
