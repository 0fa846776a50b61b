use Rattle.cc_sorts.proofs.Below.{below_least}
use Rattle.cc_sorts.proofs.theorems.below_is_least.Goals as goal

pub returns : goal.returns
returns c = below_least
