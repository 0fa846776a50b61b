use Rattle.std.proofs.Common.{◌≤◌}
use Rattle.cc_tests_clauses.proofs.cdcl.count_of.Given as goal

abbrev pub invariant-loop-index : goal.invariant-loop-index
invariant-loop-index l = l.count ≤ l.index
