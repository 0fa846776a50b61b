use Rattle.std.proofs.Common.{◌-◌, length}
use Rattle.cc_sure.specs.Sures.{IsOver, PassesTo}
use Rattle.cc_sure.proofs.turns.SureTurns.skip.Given as goal

abbrev pub invariant-loop-self : goal.invariant-loop-self
invariant-loop-self l = PassesTo l.form l.initial.self l.self × IsOver l.self

abbrev pub decreases-loop-self : goal.decreases-loop-self
decreases-loop-self l = l.size - length l.self.never
