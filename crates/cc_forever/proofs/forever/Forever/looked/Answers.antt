use Rattle.std.proofs.Common.{◌≤◌, ap, subst}
use Rattle.cc_defs.specs.Limits.{most_steps}
use Rattle.cc_forever.specs.declared.phase.Phase.TheVariants as phases
use Rattle.cc_forever.specs.Forevers.{ForeverView}
use Rattle.cc_forever.proofs.Giving.{found_gives, look_spent_gives, pass_gives, searched_as}
use Rattle.cc_silent.specs.declared.forever.ForeverHeading.TheVariants as headings
use Rattle.cc_forever.proofs.forever.Forever.looked.Goals as goal

pub returns-in-Found-clause-gives : goal.returns-in-Found-clause-gives
returns-in-Found-clause-gives c =
    found_gives c.args.self.now c.args.horizon c.requires.horizon c.requires.low c.requires.few
    (subst (λ (s : ForeverView). s.query.hi ≤ most_steps) c.self.view_is c.self.invariant.1.most) c.requires.over c.in-Found.row
    (searched_as c.args.self.now (headings.Horizon c.args.horizon) c.args.outcome _ c.in-Found.is c.requires.outcome)

pub returns-in-Empty-clause-gives : goal.returns-in-Empty-clause-gives
returns-in-Empty-clause-gives c =
    pass_gives c.args.self.now c.args.horizon c.requires.horizon c.requires.low c.requires.few
    (subst (λ (s : ForeverView). s.query.hi ≤ most_steps) c.self.view_is c.self.invariant.1.most) c.in-Empty.lines
    (searched_as c.args.self.now (headings.Horizon c.args.horizon) c.args.outcome _ c.in-Empty.is c.requires.outcome) _ (ap (λ (s : ForeverView). record s { phase = phases.Inducing }) c.self.view_is)

pub returns-in-Spent-clause-gives : goal.returns-in-Spent-clause-gives
returns-in-Spent-clause-gives c =
    look_spent_gives c.args.self.now c.args.horizon c.requires.horizon c.requires.low c.requires.few
    (subst (λ (s : ForeverView). s.query.hi ≤ most_steps) c.self.view_is c.self.invariant.1.most) c.requires.over c.in-Spent.lines
    (searched_as c.args.self.now (headings.Horizon c.args.horizon) c.args.outcome _ c.in-Spent.is c.requires.outcome)
