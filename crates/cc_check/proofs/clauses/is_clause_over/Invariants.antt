use Rattle.std.proofs.Common.{length}
use Rattle.cc_check.specs.Readers.{literals_of}
use Rattle.cc_check.proofs.Literals.{ClauseFrom}
use Rattle.cc_check.proofs.clauses.is_clause_over.Given as goal

abbrev pub invariant-loop-literal : goal.invariant-loop-literal
invariant-loop-literal l = ClauseFrom l.variables (record { variable = l.variable; positive = l.positive }) (literals_of l.rest) (literals_of l.literals)

abbrev pub decreases-loop-literal : goal.decreases-loop-literal
decreases-loop-literal l = length (literals_of l.rest)
