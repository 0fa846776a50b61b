use Rattle.std.proofs.Common.{◌≡◌}
use Rattle.cc_cdcl.specs.Solvers.{Ready}
use Rattle.cc_sections.proofs.rows.find.Given as goal

abbrev pub invariant-loop-turn : goal.invariant-loop-turn
invariant-loop-turn l = l.solver.standing ≡ Ready
