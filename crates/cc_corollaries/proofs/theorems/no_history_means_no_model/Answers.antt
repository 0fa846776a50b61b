use Rattle.cc_corollaries.proofs.Generally.{no_model}
use Rattle.cc_corollaries.proofs.theorems.no_history_means_no_model.Goals as goal

pub returns : goal.returns
returns c = no_model c.one_list_of_places.ensures
