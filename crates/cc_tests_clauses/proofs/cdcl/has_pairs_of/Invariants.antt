use Rattle.std.proofs.Common.{◌∷◌, [], ◌+◌, ◌-◌, map}
use Rattle.cc_defs.specs.ClauseForms.{positive}
use Rattle.cc_defs.specs.ClauseLists.{position_variables}
use Rattle.cc_defs.specs.Clauses.{opposite}
use Rattle.cc_kernel.specs.Kernels.{clauses_of}
use Rattle.cc_tests_clauses.proofs.Having.{HasEach}
use Rattle.cc_tests_clauses.proofs.cdcl.has_pairs_of.Given as goal

abbrev pub invariant-loop-high : goal.invariant-loop-high
invariant-loop-high l = HasEach (clauses_of l.kernel) (map (λ v. opposite (positive l.low) ∷ opposite v ∷ []) (position_variables (l.low + 1) (l.high - (l.low + 1))))
