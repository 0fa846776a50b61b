use Rattle.std.proofs.Common.{◌≡◌, ◌≤◌}
use Rattle.cc_kernel.specs.Kernels.{derived_count}
use Rattle.cc_cdcl.specs.Solvers.{Ready}
use Rattle.cc_tests_clauses.proofs.cdcl.tell.Given as goal

abbrev pub invariant-loop : goal.invariant-loop
invariant-loop l = (l.solver.standing ≡ Ready) × (derived_count l.solver.kernel.entries ≤ l.budget)
