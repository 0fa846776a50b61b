use Rattle.cc_forever.proofs.Giving.{fail_gives, hold_gives, induce_spent_gives, searched_as}
use Rattle.cc_silent.specs.declared.forever.ForeverHeading.TheVariants as headings
use Rattle.cc_forever.proofs.forever.Forever.induced.Goals as goal

pub returns-in-Found-clause-gives : goal.returns-in-Found-clause-gives
returns-in-Found-clause-gives c =
    fail_gives c.args.self.now c.args.steps c.requires.steps c.requires.ready.1 c.in-Found.row (searched_as c.args.self.now (headings.Steps c.args.steps) c.args.outcome _ c.in-Found.is c.requires.outcome)
    c.fail.new.self c.fail.ensures

pub returns-in-Empty-clause-gives : goal.returns-in-Empty-clause-gives
returns-in-Empty-clause-gives c =
    hold_gives c.args.self.now c.args.steps c.requires.steps c.requires.ready.1 c.requires.over c.in-Empty.lines (searched_as c.args.self.now (headings.Steps c.args.steps) c.args.outcome _ c.in-Empty.is c.requires.outcome)

pub returns-in-Spent-clause-gives : goal.returns-in-Spent-clause-gives
returns-in-Spent-clause-gives c =
    induce_spent_gives c.args.self.now c.args.steps c.requires.steps c.requires.ready.1 c.requires.over c.in-Spent.lines
    (searched_as c.args.self.now (headings.Steps c.args.steps) c.args.outcome _ c.in-Spent.is c.requires.outcome)
