use Rattle.cc_clauses.proofs.Denials.{not_denied}
use Rattle.cc_clauses.proofs.theorems.denial_leaves_others.Goals as goal

pub returns : goal.returns
returns c = not_denied 1
