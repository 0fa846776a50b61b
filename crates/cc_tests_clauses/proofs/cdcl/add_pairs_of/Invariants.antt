use Rattle.cc_kernel.specs.Kernels.{AreAxioms}
use Rattle.cc_tests_clauses.proofs.cdcl.add_pairs_of.Given as goal

abbrev pub invariant-loop-high : goal.invariant-loop-high
invariant-loop-high l = AreAxioms l.kernel.entries
