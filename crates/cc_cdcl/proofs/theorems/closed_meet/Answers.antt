use Rattle.cc_cdcl.proofs.Closed.{alike_closed}
use Rattle.cc_cdcl.proofs.theorems.closed_meet.Goals as goal

pub returns : goal.returns
returns c = alike_closed
