use Rattle.cc_corollaries.proofs.Meanings.{first_so_many}
use Rattle.cc_corollaries.proofs.theorems.asked_means_the_first.Goals as goal

pub returns : goal.returns
returns c = first_so_many c.one_list_of_places.ensures
