use Rattle.std.proofs.Common.{◌≡◌}
use Rattle.cc_cdcl.specs.Solvers.{Ready}
use Rattle.cc_sections.proofs.rows.show_found.Given as goal

abbrev pub invariant-loop-number : goal.invariant-loop-number
invariant-loop-number l = l.solver.standing ≡ Ready
