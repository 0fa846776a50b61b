use Rattle.cc_log.proofs.ConvertingNames.{accepted_logs_are_sayable}
use Rattle.cc_log.proofs.theorems.accepted_logs_are_sayable.Goals as goal

pub returns : goal.returns
returns c = accepted_logs_are_sayable
