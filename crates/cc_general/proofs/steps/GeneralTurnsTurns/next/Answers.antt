use Rattle.cc_general.proofs.Stepping.{refused_by, told_behind}
use Rattle.cc_general.proofs.steps.GeneralTurnsTurns.next.Goals as goal

pub returns-clause-tells : goal.returns-clause-tells
returns-clause-tells c =
    let next = c.next.ensures in
    told_behind c.args.self.now c.next.new.self c.next.result next.same next.less next.writable next.good next.tells

pub returns-clause-refused : goal.returns-clause-refused
returns-clause-refused c = refused_by c.args.self.now c.next.result c.next.ensures.refused
