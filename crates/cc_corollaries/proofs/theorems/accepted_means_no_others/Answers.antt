use Rattle.cc_corollaries.proofs.Accepted.{no_others}
use Rattle.cc_corollaries.proofs.theorems.accepted_means_no_others.Goals as goal

pub returns : goal.returns
returns c = no_others c.one_list_of_places.ensures
