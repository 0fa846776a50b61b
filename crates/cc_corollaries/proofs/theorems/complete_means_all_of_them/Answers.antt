use Rattle.cc_corollaries.proofs.CnfRuns.{all_of_them}
use Rattle.cc_corollaries.proofs.theorems.complete_means_all_of_them.Goals as goal

pub returns : goal.returns
returns c = all_of_them c.one_cnf.ensures
