use Rattle.cc_log.proofs.Lines.{one_line}
use Rattle.cc_log.proofs.theorems.lines_are_unique.Goals as goal

pub returns : goal.returns
returns c = one_line
