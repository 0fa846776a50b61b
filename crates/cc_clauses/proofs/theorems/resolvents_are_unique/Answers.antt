use Rattle.cc_clauses.proofs.Soundness.{unique}
use Rattle.cc_clauses.proofs.theorems.resolvents_are_unique.Goals as goal

pub returns : goal.returns
returns c = unique
