use Rattle.cc_cdcl.proofs.Learning.{two_of_last}
use Rattle.cc_cdcl.proofs.theorems.false_clause_has_two.Goals as goal

pub returns : goal.returns
returns c = two_of_last
