use Rattle.std.proofs.Common.{◌∙◌, ℕ, min, ap}
use Rattle.cc_trail.proofs.TrailViews.{fits_went, settled_went}
use Rattle.cc_trail.proofs.trail.Trail.back_to.Goals as goal

pub returns-clause-fits : goal.returns-clause-fits
returns-clause-fits c =
    fits_went c.self.inside c.args.self.now c.self.view_is c.self.invariant c.back_to.new.self c.args.level c.min-self-inside.result c.requires
    c.back_to.ensures.back c.back_to.ensures.steps (c.min-self-inside.ensures ∙ ap (λ (n : ℕ). min c.self.inside.visited n) c.count.ensures.count)

pub returns-clause-settled : goal.returns-clause-settled
returns-clause-settled c =
    settled_went c.self.inside c.args.self.now c.self.view_is c.self.invariant c.back_to.new.self c.args.level c.min-self-inside.result c.requires
    c.back_to.ensures.back c.back_to.ensures.steps (c.min-self-inside.ensures ∙ ap (λ (n : ℕ). min c.self.inside.visited n) c.count.ensures.count)
