use Rattle.cc_corollaries.proofs.Meanings.{claim_holds}
use Rattle.cc_corollaries.proofs.theorems.claim_holds_means_all_meet_it.Goals as goal

pub returns : goal.returns
returns c = claim_holds c.one_list_of_places.ensures
