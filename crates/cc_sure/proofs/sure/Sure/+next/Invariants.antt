use Rattle.cc_sure.specs.Sures.{left_of}
use Rattle.cc_sure.proofs.sure.Sure.+next.Given as goal

abbrev pub decreases-next : goal.decreases-next
decreases-next l = left_of l.self.now.turns
