use Rattle.std.proofs.Common.{◌≡◌, take}
use Rattle.cc_tests_clauses.proofs.cdcl.is_same_clause.Given as goal

abbrev pub invariant-loop-index : goal.invariant-loop-index
invariant-loop-index l = take l.index l.a ≡ take l.index l.b
