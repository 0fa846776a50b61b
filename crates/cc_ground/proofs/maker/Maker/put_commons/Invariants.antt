use Rattle.cc_ground.proofs.Putting.{CommonsSoFar}
use Rattle.cc_ground.proofs.maker.Maker.put_commons.Given as goal

abbrev pub invariant-loop-index : goal.invariant-loop-index
invariant-loop-index l = CommonsSoFar l.constant l.values l.other l.others l.index l.count l.fn.self l.self
