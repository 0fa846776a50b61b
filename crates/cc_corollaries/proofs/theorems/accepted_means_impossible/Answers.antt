use Rattle.cc_corollaries.proofs.Accepted.{impossible}
use Rattle.cc_corollaries.proofs.theorems.accepted_means_impossible.Goals as goal

pub returns : goal.returns
returns c = impossible c.one_list_of_places.ensures
