use Rattle.cc_corollaries.proofs.Accepted.{no_other_models}
use Rattle.cc_corollaries.proofs.theorems.accepted_means_no_other_models.Goals as goal

pub returns : goal.returns
returns c = no_other_models c.one_cnf.ensures
