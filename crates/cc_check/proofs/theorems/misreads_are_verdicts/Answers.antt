use Rattle.cc_check.proofs.Verdicts.{misreads_are_verdicts}
use Rattle.cc_check.proofs.theorems.misreads_are_verdicts.Goals as goal

pub returns : goal.returns
returns c = misreads_are_verdicts
