use Rattle.cc_kernel.specs.Kernels.{AreAxioms}
use Rattle.cc_tests_clauses.proofs.cdcl.add_pairs.Given as goal

abbrev pub invariant-loop-low : goal.invariant-loop-low
invariant-loop-low l = AreAxioms l.kernel.entries
