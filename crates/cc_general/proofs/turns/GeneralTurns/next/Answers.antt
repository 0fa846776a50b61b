use Rattle.cc_general.proofs.Telling.{good_gives}
use Rattle.cc_general.proofs.turns.GeneralTurns.next.Goals as goal

pub returns-clause-good : goal.returns-clause-good
returns-clause-good c = good_gives c.args.self.now c.step.new.self c.step.result c.step.ensures.gives
