use Rattle.std.proofs.Common.{◌∙◌, ◌/◌, ◌-◌, ◌≤◌, ℕ, Bool, refl, sym, subst, ap}
use Rattle.cc_trail.specs.Steps.{step_of}
use Rattle.cc_trail.specs.EntryParts.{mark_of}
use Rattle.cc_trail.specs.EntrySteps.{is_true_by, IsValued}
use Rattle.cc_trail.proofs.EntryViews.{mark_here}
use Rattle.cc_trail.proofs.Marked.{stands_by}
use Rattle.cc_trail.proofs.entries.Entries.standing.Goals as goal

pub returns-clause-stands : goal.returns-clause-stands
returns-clause-stands c =
    subst (λ (b : Bool). IsValued c.args.self.now.steps c.args.lit (c.index-mark.result.now / 2 - 1) b)
    (sym (c.is_true.ensures ∙ ap (λ (b : Bool). is_true_by c.index-mark.result.now b) c.is_positive.ensures))
    (stands_by c.args.self.now.steps c.args.lit c.index-mark.result.now (step_of c.args.self.now.steps c.args.lit.variable) refl
    (mark_here c.self.inside c.args.self.now c.self.view_is c.self.invariant.kept c.self.invariant.marked c.variable.result c.index-mark.result.now
    (subst (λ (n : ℕ). n ≤ c.args.self.now.variables) (sym c.variable.ensures) c.requires) c.index-mark.ensures ∙
    ap (λ (n : ℕ). mark_of (step_of c.args.self.now.steps n)) c.variable.ensures) c.if-mark-lt2.false)
