use Rattle.cc_corollaries.proofs.Meanings.{claim_fails}
use Rattle.cc_corollaries.proofs.theorems.claim_fails_means_one_does_not.Goals as goal

pub returns : goal.returns
returns c = claim_fails c.one_list_of_places.ensures
