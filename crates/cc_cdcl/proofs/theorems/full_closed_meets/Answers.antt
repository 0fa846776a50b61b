use Rattle.cc_cdcl.proofs.Closed.{full_met}
use Rattle.cc_cdcl.proofs.theorems.full_closed_meets.Goals as goal

pub returns : goal.returns
returns c = full_met
