use Rattle.cc_convert.proofs.Accepted.{accepted_logs_say_lines}
use Rattle.cc_convert.proofs.theorems.accepted_logs_say_lines.Goals as goal

pub returns : goal.returns
returns c = accepted_logs_say_lines
