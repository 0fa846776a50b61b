use Rattle.cc_corollaries.proofs.Generally.{first_models}
use Rattle.cc_corollaries.proofs.theorems.asked_means_the_first_models.Goals as goal

pub returns : goal.returns
returns c = first_models c.one_list_of_places.ensures
