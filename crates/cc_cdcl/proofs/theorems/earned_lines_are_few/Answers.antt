use Rattle.cc_cdcl.proofs.Counting.{earned_few}
use Rattle.cc_cdcl.proofs.theorems.earned_lines_are_few.Goals as goal

pub returns : goal.returns
returns c = earned_few
