use Rattle.cc_general.proofs.HandingOut.{nothing_after}
use Rattle.cc_general.proofs.general.General.new.Goals as goal

pub returns-clause-begun : goal.returns-clause-begun
returns-clause-begun c = λ w q of. nothing_after w q c.new-turns.result _ _ c.new-2.ensures (c.new-turns.ensures.begun w q of)
