use Rattle.cc_clauses.proofs.Literals.{one_clause}
use Rattle.cc_clauses.proofs.theorems.same_literals_are_one_clause.Goals as goal

pub returns : goal.returns
returns c = one_clause
