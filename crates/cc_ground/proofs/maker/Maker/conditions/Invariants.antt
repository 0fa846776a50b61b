use Rattle.cc_ground.proofs.Querying.{AskedSoFar}
use Rattle.cc_ground.proofs.maker.Maker.conditions.Given as goal

abbrev pub invariant-loop-condition : goal.invariant-loop-condition
invariant-loop-condition l = AskedSoFar l.conditions l.condition-index l.made.items l.fn.self l.self
