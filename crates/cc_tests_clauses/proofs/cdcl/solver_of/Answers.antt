use Rattle.std.proofs.Common.{◌≡◌, ◌∙◌, sym, ap}
use Rattle.std.proofs.lemmas.Result.{IfOk-weaker}
use Rattle.cc_kernel.specs.Kernels.{derived_count}
use Rattle.cc_cdcl.specs.Solvers.{SolverView}
use Rattle.cc_tests_clauses.proofs.Having.{none_derived}
use Rattle.cc_tests_clauses.proofs.cdcl.solver_of.Goals as goal

pub returns-clause-none : goal.returns-clause-none
returns-clause-none c = IfOk-weaker c.new.result _ _ (λ solver is. ap (λ (s : SolverView). derived_count s.kernel.entries) is ∙ none_derived c.args.kernel.entries c.requires) c.new.ensures
