use Rattle.std.proofs.Common.{◌-◌}
use Rattle.cc_defs.specs.ClauseLists.{pairs_denied, position_variables}
use Rattle.cc_kernel.specs.Kernels.{clauses_of}
use Rattle.cc_tests_clauses.proofs.Having.{HasEach}
use Rattle.cc_tests_clauses.proofs.cdcl.has_pairs.Given as goal

abbrev pub invariant-loop-low : goal.invariant-loop-low
invariant-loop-low l = HasEach (clauses_of l.kernel) (pairs_denied (position_variables l.low (l.end - l.low))) → HasEach (clauses_of l.kernel) (pairs_denied (position_variables l.first (l.end - l.first)))
