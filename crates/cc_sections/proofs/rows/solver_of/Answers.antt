use Rattle.std.proofs.Common.{◌∙◌, ap}
use Rattle.cc_kernel.specs.Kernels.{KernelView}
use Rattle.cc_sections.proofs.Items.{positions_there}
use Rattle.cc_sections.proofs.rows.solver_of.Goals as goal

pub new-requires-clause-positions : goal.new-requires-clause-positions
new-requires-clause-positions c =
    positions_there c.deref.result.now c.args.form.sizes c.args.form.clauses c.into_clauses.result c.of-kernel.result
    (c.deref.ensures.value ∙ c.in_ok-sizes.ensures.items ∙ c.sizes.ensures.sizes) (ap (λ (k : KernelView). k.entries) c.of-kernel.ensures.kernel) c.into_clauses.ensures.clauses
    c.sizes.ensures.choices
