use Rattle.cc_corollaries.proofs.Meanings.{no_plan}
use Rattle.cc_corollaries.proofs.theorems.forever_means_no_plan.Goals as goal

pub returns : goal.returns
returns c = no_plan c.one_list_of_places.ensures
