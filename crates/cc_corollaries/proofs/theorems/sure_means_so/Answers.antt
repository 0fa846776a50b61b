use Rattle.cc_corollaries.proofs.SureMeanings.{sure_so}
use Rattle.cc_corollaries.proofs.theorems.sure_means_so.Goals as goal

pub returns : goal.returns
returns c = sure_so c.one_list_of_places.ensures
