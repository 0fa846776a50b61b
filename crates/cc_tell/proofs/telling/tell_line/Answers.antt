use Rattle.cc_tell.proofs.GivenSteps.{step_dropped}
use Rattle.cc_tell.proofs.telling.tell_line.Goals as goal

pub returns-then-drops_log : goal.returns-then-drops_log
returns-then-drops_log g c = step_dropped _ _ _ (c.drops_log.ensures.told c.if-drops_log.true)

pub returns : goal.returns
returns g c = c.give_made.ensures _ c.put_line.ensures
