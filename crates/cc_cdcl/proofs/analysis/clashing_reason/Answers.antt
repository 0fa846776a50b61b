use Rattle.std.proofs.Common.{◌∙◌, sym, subst}
use Rattle.std.specs.Prelude.{Contains}
use Rattle.cc_defs.specs.Clauses.{Literal}
use Rattle.cc_kernel.specs.Kernels.{ClashesWith}
use Rattle.cc_cdcl.proofs.Staged.{if_some_of, staged_here, staged_never}
use Rattle.cc_cdcl.proofs.analysis.clashing_reason.Goals as goal

pub returns-then-not-stages-clause-none : goal.returns-then-not-stages-clause-none
returns-then-not-stages-clause-none c = λ id at clash.
    staged_never c.args.kernel.now.staged c.stages.result c.opposite.result clash.0 clash.2 c.stages.ensures c.if-not-stages.true
    (subst (λ (l : Literal). Contains clash.0 l) (sym c.opposite.ensures) (c.requires.only id clash.0 at clash.2 clash))

pub returns-clause-some : goal.returns-clause-some
returns-clause-some c =
    let (clause, is, here) = staged_here c.args.kernel.now.staged c.stages.result c.opposite.result c.requires.staged c.stages.ensures c.if-not-stages.false in
    if_some_of c.reason.result (ClashesWith c.args.kernel.now c.args.pivot) (λ id at.
    c.requires.clash id clause (sym c.reason.ensures ∙ at) is (subst (λ (l : Literal). Contains clause l) c.opposite.ensures here))
