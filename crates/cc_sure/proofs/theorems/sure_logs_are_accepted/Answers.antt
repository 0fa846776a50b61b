use Rattle.cc_sure.proofs.theorems.sure_logs_are_accepted.Goals as goal
use Rattle.cc_sure.proofs.Accepting.{logs_are_accepted}

pub returns : goal.returns
returns c = logs_are_accepted
