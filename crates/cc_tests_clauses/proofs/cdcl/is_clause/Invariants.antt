use Rattle.std.proofs.Common.{drop}
use Rattle.cc_tests_clauses.proofs.Having.{Ascend}
use Rattle.cc_tests_clauses.proofs.cdcl.is_clause.Given as goal

abbrev pub invariant-loop-literal : goal.invariant-loop-literal
invariant-loop-literal l = Ascend l.variables l.variable (drop l.literal-index l.literals) → Ascend l.variables 0 l.literals
