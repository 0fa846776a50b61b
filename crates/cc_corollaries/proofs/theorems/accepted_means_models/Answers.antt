use Rattle.cc_corollaries.proofs.Accepted.{models}
use Rattle.cc_corollaries.proofs.theorems.accepted_means_models.Goals as goal

pub returns : goal.returns
returns c = models c.one_list_of_places.ensures
