use Rattle.cc_corollaries.proofs.Meanings.{always}
use Rattle.cc_corollaries.proofs.theorems.forever_means_always.Goals as goal

pub returns : goal.returns
returns c = always c.one_list_of_places.ensures
