use Rattle.std.proofs.Common.{◌≤◌}
use Rattle.cc_kernel.specs.Kernels.{AreAxioms}
use Rattle.cc_tests_clauses.proofs.cdcl.add_positions.Given as goal

abbrev pub invariant-loop-index : goal.invariant-loop-index
invariant-loop-index l = AreAxioms l.kernel.entries × (1 ≤ l.first)
