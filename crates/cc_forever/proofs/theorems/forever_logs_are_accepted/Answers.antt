use Rattle.cc_forever.proofs.Accepting.{logs_are_accepted}
use Rattle.cc_forever.proofs.theorems.forever_logs_are_accepted.Goals as goal

pub returns : goal.returns
returns c = logs_are_accepted
