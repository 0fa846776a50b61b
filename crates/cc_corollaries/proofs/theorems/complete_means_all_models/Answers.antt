use Rattle.cc_corollaries.proofs.Generally.{complete_models}
use Rattle.cc_corollaries.proofs.theorems.complete_means_all_models.Goals as goal

pub returns : goal.returns
returns c = complete_models c.one_list_of_places.ensures
