use Rattle.cc_corollaries.proofs.Meanings.{one_fails}
use Rattle.cc_corollaries.proofs.theorems.forever_fails_means_one_does_not.Goals as goal

pub returns : goal.returns
returns c = one_fails c.one_list_of_places.ensures
