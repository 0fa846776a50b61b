use Rattle.cc_sure.proofs.Giving.{complete_gives, none_size}
use Rattle.cc_sure.proofs.turns.SureTurns.ask.Goals as goal

pub returns-in-None-clause-gives : goal.returns-in-None-clause-gives
returns-in-None-clause-gives c =
    complete_gives c.args.self.now c.args.form c.requires.asking (none_size _ c.args.self.now c.args.form c.self.view_is c.size_at.result c.size_at.ensures c.in-None.is) c.requires.over
