use Rattle.std.proofs.Common.{length}
use Rattle.cc_ground.proofs.judged.+chosen.Given as goal

abbrev pub decreases-chosen : goal.decreases-chosen
decreases-chosen l = length l.constants.now
