use Rattle.cc_general.proofs.Walking.{IsWalking}
use Rattle.cc_general.proofs.turns.GeneralTurns.walk.Given as goal
use Rattle.cc_search.specs.Searches.{left_of}

abbrev pub invariant-loop-halt : goal.invariant-loop-halt
invariant-loop-halt l = IsWalking l.self l.initial.search l.initial.lines.items l.search l.lines.items

abbrev pub decreases-loop-halt : goal.decreases-loop-halt
decreases-loop-halt l = left_of l.search
