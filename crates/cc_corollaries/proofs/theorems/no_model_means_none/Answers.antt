use Rattle.cc_corollaries.proofs.CnfRuns.{none_of_them}
use Rattle.cc_corollaries.proofs.theorems.no_model_means_none.Goals as goal

pub returns : goal.returns
returns c = none_of_them c.one_cnf.ensures
