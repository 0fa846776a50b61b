use Rattle.cc_sure.proofs.Stepping.{behind, fits}
use Rattle.cc_sure.proofs.steps.SureTurnsTurns.next.Goals as goal

pub returns-clause-tells : goal.returns-clause-tells
returns-clause-tells c =
    let next = c.in_ok-turn.ensures in
    behind c.args.self.now c.next.new.self c.in_ok-turn.turn c.horizon-horizon.result c.horizon-horizon.ensures next.short next.few next.tells c.requires next.same next.less next.goes next.good

pub returns-clause-fit : goal.returns-clause-fit
returns-clause-fit c =
    let next = c.in_ok-turn.ensures in
    fits c.args.self.now c.next.new.self c.in_ok-turn.turn c.horizon-horizon.result c.horizon-horizon.ensures next.short next.few next.tells
