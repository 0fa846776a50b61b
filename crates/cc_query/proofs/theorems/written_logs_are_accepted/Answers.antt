use Rattle.cc_query.proofs.AcceptedRuns.{logs_are_accepted}
use Rattle.cc_query.proofs.theorems.written_logs_are_accepted.Goals as goal

pub returns : goal.returns
returns c = logs_are_accepted
