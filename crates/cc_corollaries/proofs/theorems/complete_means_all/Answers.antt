use Rattle.cc_corollaries.proofs.Meanings.{complete}
use Rattle.cc_corollaries.proofs.theorems.complete_means_all.Goals as goal

pub returns : goal.returns
returns c = complete c.one_list_of_places.ensures
