use Rattle.std.proofs.Common.{◌∙◌, ℕ, option_and_then, ap, sym, subst}
use Rattle.std.specs.Prelude.{Contains}
use Rattle.cc_defs.specs.Clauses.{Literal}
use Rattle.cc_trail.specs.Steps.{step_of}
use Rattle.cc_trail.specs.Trails.{reason_of_step}
use Rattle.cc_cdcl.proofs.Staged.{staged_here}
use Rattle.cc_cdcl.proofs.analysis.shortening_reason.Goals as goal

pub returns-then-is_worth-clause-clash : goal.returns-then-is_worth-clause-clash
returns-then-is_worth-clause-clash c =
    let (clause, is, here) = staged_here c.args.kernel.now.staged c.stages.result c.opposite.result c.requires.staged c.stages.ensures c.if-not-stages.false in
    c.requires.clash c.in-Some.id clause
    (ap (λ (n : ℕ). option_and_then reason_of_step (step_of c.args.trail.now.steps n)) (sym c.variable-pivot.ensures) ∙ sym c.in-Some.ensures) is
    (subst (λ (l : Literal). Contains clause l) c.opposite.ensures here)
