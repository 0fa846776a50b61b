use Rattle.cc_clauses.proofs.Denials.{denied}
use Rattle.cc_clauses.proofs.theorems.denial_denies.Goals as goal

pub returns : goal.returns
returns c = denied 1
