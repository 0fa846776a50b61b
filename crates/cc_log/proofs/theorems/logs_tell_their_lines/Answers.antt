use Rattle.cc_log.proofs.Telling.{logs_tell_their_lines}
use Rattle.cc_log.proofs.theorems.logs_tell_their_lines.Goals as goal

pub returns : goal.returns
returns c = logs_tell_their_lines
