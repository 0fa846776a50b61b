use Rattle.std.proofs.Common.{◌≡◌, length}
use Rattle.cc_defs.specs.Clauses.{IsIn}
use Rattle.cc_trail.proofs.links.Links.walk_to.Given as goal

abbrev pub invariant-loop-other : goal.invariant-loop-other
invariant-loop-other l =
    IsIn l.self.ahead l.node × (l.self.watched ≡ l.initial.self.watched) × (l.self.variables ≡ l.initial.self.variables)

abbrev pub decreases-loop-other : goal.decreases-loop-other
decreases-loop-other l = length l.self.ahead
