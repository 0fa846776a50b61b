use Rattle.cc_check.proofs.Verdicts.{sections_give_verdicts}
use Rattle.cc_check.proofs.theorems.sections_give_verdicts.Goals as goal

pub returns : goal.returns
returns c = sections_give_verdicts
