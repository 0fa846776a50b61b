use Rattle.cc_cdcl.proofs.Walking.{resolved}
use Rattle.cc_cdcl.proofs.theorems.resolvent_is_false.Goals as goal

pub returns : goal.returns
returns c = resolved
