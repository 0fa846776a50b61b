use Rattle.cc_cdcl.proofs.Learning.{learned}
use Rattle.cc_cdcl.proofs.theorems.learned_is_earned.Goals as goal

pub returns : goal.returns
returns c = learned
