use Rattle.cc_general.proofs.Walking.{walking_ends}
use Rattle.cc_general.proofs.turns.GeneralTurns.walk.Goals as goal

pub returns-in-Some-clause-comes : goal.returns-in-Some-clause-comes
returns-in-Some-clause-comes c =
    walking_ends c.args.self.now c.args.search.now c.args.lines.now.items c.loop-halt.search c.loop-halt.lines.items c.loop-halt.invariant
    c.turn.new.search c.turn.new.lines.items c.in_ok-halt.field-0 c.in-Some.halt c.in-Some.is c.in_ok-halt.ensures.comes
