use Rattle.std.proofs.Common.{drop}
use Rattle.cc_check.specs.Readers.{literals_of}
use Rattle.cc_check.proofs.Literals.{SameFrom}
use Rattle.cc_check.proofs.clauses.is_same_clause.Given as goal

abbrev pub invariant-loop-literal : goal.invariant-loop-literal
invariant-loop-literal l = SameFrom (drop l.literal-index l.clause) (literals_of l.others) l.clause (literals_of l.literals)
