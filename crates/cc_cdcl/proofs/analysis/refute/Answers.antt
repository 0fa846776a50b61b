use Rattle.std.proofs.Common.{List, subst}
use Rattle.cc_defs.specs.Clauses.{Literal}
use Rattle.cc_cdcl.specs.Solvers.{AddsDerived}
use Rattle.cc_cdcl.proofs.Deriving.{derived_empty, derives}
use Rattle.cc_cdcl.proofs.analysis.refute.Goals as goal

pub returns-clause-refuted : goal.returns-clause-refuted
returns-clause-refuted c =
    subst (λ (clause : List Literal). AddsDerived c.args.kernel.now c.finish.new.self clause)
    (derived_empty c.args.trail.now c.derive_first.new.kernel (record { place = _; derivation = c.in_ok-derive_first.ensures.derived }) c.requires.level)
    (derives c.args.trail.now c.args.kernel.now c.derive_first.new.kernel c.finish.new.self c.level_count-level.ensures.steps c.requires.fits.variables c.derive_first.ensures.kept
    (record { place = _; derivation = c.in_ok-derive_first.ensures.derived }) c.in_ok-finish.ensures.added c.finish.ensures.reached)
