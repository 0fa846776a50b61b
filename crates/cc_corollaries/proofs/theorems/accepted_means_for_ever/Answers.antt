use Rattle.cc_corollaries.proofs.Accepted.{for_ever}
use Rattle.cc_corollaries.proofs.theorems.accepted_means_for_ever.Goals as goal

pub returns : goal.returns
returns c = for_ever c.one_list_of_places.ensures
