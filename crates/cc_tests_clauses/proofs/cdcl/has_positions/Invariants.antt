use Rattle.std.proofs.Common.{◌≤◌, drop}
use Rattle.cc_defs.specs.ClauseLists.{positions_from}
use Rattle.cc_kernel.specs.Kernels.{clauses_of}
use Rattle.cc_tests_clauses.proofs.Having.{HasEach}
use Rattle.cc_tests_clauses.proofs.cdcl.has_positions.Given as goal

abbrev pub invariant-loop-index : goal.invariant-loop-index
invariant-loop-index l = record {
  some : 1 ≤ l.first;
  left : HasEach (clauses_of l.kernel) (positions_from l.first (drop l.index l.sizes)) → HasEach (clauses_of l.kernel) (positions_from 1 l.sizes);
}
