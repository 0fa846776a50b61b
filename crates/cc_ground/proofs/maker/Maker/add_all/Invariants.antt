use Rattle.cc_ground.proofs.Ranging.{LawsSoFar}
use Rattle.cc_ground.proofs.maker.Maker.add_all.Given as goal

abbrev pub invariant-loop-base : goal.invariant-loop-base
invariant-loop-base l = LawsSoFar l.laws l.base l.fn.made.items l.made.items l.fn.self l.self
