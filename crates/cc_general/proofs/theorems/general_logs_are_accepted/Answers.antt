use Rattle.cc_general.proofs.Accepting.{logs_are_accepted}
use Rattle.cc_general.proofs.theorems.general_logs_are_accepted.Goals as goal

pub returns : goal.returns
returns c = logs_are_accepted c.histories_have_no_rivals.ensures
