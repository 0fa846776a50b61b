use Rattle.cc_clauses.proofs.Soundness.{sound}
use Rattle.cc_clauses.proofs.theorems.resolvents_are_sound.Goals as goal

pub returns : goal.returns
returns c = sound
