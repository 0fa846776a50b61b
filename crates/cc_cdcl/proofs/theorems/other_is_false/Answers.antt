use Rattle.cc_cdcl.proofs.Walking.{passed}
use Rattle.cc_cdcl.proofs.theorems.other_is_false.Goals as goal

pub returns : goal.returns
returns c = passed
