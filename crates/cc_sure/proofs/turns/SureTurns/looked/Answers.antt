use Rattle.cc_sure.proofs.Giving.{outcome_at, pass_gives, spent_gives}
use Rattle.cc_sure.proofs.turns.SureTurns.looked.Goals as goal

pub returns-in-Empty-clause-gives : goal.returns-in-Empty-clause-gives
returns-in-Empty-clause-gives c =
    let (most, examples, position, never) = c.requires.ready in
    pass_gives c.args.self.now c.requires.low c.pass.ensures.few examples position never c.args.form c.requires.opened c.in-Empty.field-0
    (outcome_at _ _ c.args.outcome _ c.in-Empty.is c.requires.outcome) c.pass.new.self c.pass.ensures.new c.pass.result c.pass.ensures.turn

pub returns-in-Spent-clause-gives : goal.returns-in-Spent-clause-gives
returns-in-Spent-clause-gives c =
    let (most, examples, position, never) = c.requires.ready in
    spent_gives c.args.self.now c.requires.over c.requires.low examples position never c.args.form c.requires.opened c.in-Spent.lines (outcome_at _ _ c.args.outcome _ c.in-Spent.is c.requires.outcome)
