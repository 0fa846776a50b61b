use Rattle.cc_sure.proofs.HandingOut.{nothing_after}
use Rattle.cc_sure.proofs.sure.Sure.new.Goals as goal

pub returns-clause-begun : goal.returns-clause-begun
returns-clause-begun c = λ d q of. nothing_after d q c.new.result _ c.new-2.ensures (c.new.ensures.begun d q of)
