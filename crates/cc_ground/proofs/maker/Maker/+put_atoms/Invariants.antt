use Rattle.std.proofs.Common.{length}
use Rattle.cc_ground.proofs.maker.Maker.+put_atoms.Given as goal

abbrev pub decreases-put_atoms : goal.decreases-put_atoms
decreases-put_atoms l = length l.constants.now
