use Rattle.std.proofs.Common.{refl}
use Rattle.cc_general.proofs.Beginning.{mapped, new_stands}
use Rattle.cc_general.proofs.turns.GeneralTurns.new.Goals as goal

pub returns-clause-begun : goal.returns-clause-begun
returns-clause-begun c = new_stands _ refl c.requires.ordered (mapped _ _ c.requires.claim) c.requires.count refl refl
