use Rattle.cc_corollaries.proofs.Meanings.{no_history}
use Rattle.cc_corollaries.proofs.theorems.no_history_means_none.Goals as goal

pub returns : goal.returns
returns c = no_history c.one_list_of_places.ensures
