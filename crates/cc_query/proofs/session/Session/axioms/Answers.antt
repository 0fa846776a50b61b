use Rattle.std.proofs.Common.{◌∙◌, length, ap}
use Rattle.cc_kernel.specs.Kernels.{KernelView}
use Rattle.cc_query.proofs.Going.{axioms_counted}
use Rattle.cc_query.proofs.session.Session.axioms.Goals as goal

pub returns : goal.returns
returns c = λ d q given conditions horizon after opened.
    c.count.ensures ∙ ap (λ (k : KernelView). length k.entries) c.kernel.ensures.kernel
    ∙ axioms_counted d q _ c.args.self.now given c.in-Searching.part c.in-Searching.solver c.in-Searching.listed conditions horizon c.self.view_is c.in-Searching.is after opened
