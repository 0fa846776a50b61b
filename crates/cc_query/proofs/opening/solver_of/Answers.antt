use Rattle.std.proofs.Common.{◌≡◌, ◌∙◌, ◌≤◌, ℕ, List, ap, length, refl, sym, subst}
use Rattle.std.specs.Prelude.{All}
use Rattle.cc_cdcl.specs.Solvers.{Ready, SolverView}
use Rattle.cc_defs.specs.Clauses.{Literal, IsOver}
use Rattle.cc_kernel.specs.Kernels.{KernelView, axioms_of}
use Rattle.cc_lists.proofs.GoodAxioms.{good_axioms}
use Rattle.cc_query.proofs.Opened.{of_made, on_ok, positions_there}
use Rattle.cc_query.proofs.opening.solver_of.Goals as goal

pub new-requires-clause-positions : goal.new-requires-clause-positions
new-requires-clause-positions c =
    positions_there c.deref.result.now c.args.form.sizes c.args.form.clauses c.into_clauses.result c.of-kernel.result
    (c.deref.ensures.value ∙ c.in_ok-sizes.ensures.items ∙ c.sizes.ensures.sizes) (ap (λ (k : KernelView). k.entries) c.of-kernel.ensures.kernel) c.into_clauses.ensures.clauses
    c.sizes.ensures.choices

pub returns-clause-good : goal.returns-clause-good
returns-clause-good c = good_axioms c.new.result c.args.form c.into_clauses.result c.variables-variables.result c.into_clauses.ensures.clauses
    c.variables-variables.ensures.value c.into_clauses.ensures.each c.into_clauses.ensures.over c.variables-variables.ensures.least

pub of-kernel-requires-clause-over : goal.of-kernel-requires-clause-over
of-kernel-requires-clause-over c = subst (λ (n : ℕ). All (IsOver n) c.into_clauses.result) (sym c.variables-variables.ensures.value) c.into_clauses.ensures.over

pub returns-clause-sizes : goal.returns-clause-sizes
returns-clause-sizes c = of_made c.new.result _ (λ (s : SolverView). s.sizes ≡ c.args.form.sizes) c.new.ensures
    (c.deref.ensures.value ∙ c.in_ok-sizes.ensures.items ∙ c.sizes.ensures.sizes)

pub returns-clause-variables : goal.returns-clause-variables
returns-clause-variables c = of_made c.new.result _ (λ (s : SolverView). s.kernel.variables ≡ c.args.form.variables) c.new.ensures
    (ap (λ (k : KernelView). k.variables) c.of-kernel.ensures.kernel ∙ c.variables-variables.ensures.value)

pub returns-clause-few : goal.returns-clause-few
returns-clause-few c = on_ok c.new.result (subst (λ (n : ℕ). n ≤ 4000000) c.variables-variables.ensures.value c.variables-variables.ensures.most)

pub returns-clause-entries : goal.returns-clause-entries
returns-clause-entries c = of_made c.new.result _ (λ (s : SolverView). s.kernel.entries ≡ axioms_of c.args.form.clauses) c.new.ensures
    (ap (λ (k : KernelView). k.entries) c.of-kernel.ensures.kernel ∙ ap axioms_of c.into_clauses.ensures.clauses)

pub returns-clause-count : goal.returns-clause-count
returns-clause-count c = on_ok c.new.result (subst (λ (l : List (List Literal)). length l ≤ 8000000) c.into_clauses.ensures.clauses c.into_clauses.ensures.count)

pub returns-clause-ready : goal.returns-clause-ready
returns-clause-ready c = of_made c.new.result _ (λ (s : SolverView). s.standing ≡ Ready) c.new.ensures refl
