use Rattle.cc_corollaries.proofs.SureMeanings.{nothing_sure}
use Rattle.cc_corollaries.proofs.theorems.nothing_sure_means_none.Goals as goal

pub returns : goal.returns
returns c = nothing_sure c.one_list_of_places.ensures
