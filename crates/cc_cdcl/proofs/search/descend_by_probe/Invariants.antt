use Rattle.std.proofs.Common.{◌≡◌, ◌+◌, ◌-◌, length}
use Rattle.cc_cdcl.specs.Searches.{IsTrailOf}
use Rattle.cc_cdcl.proofs.search.descend_by_probe.Given as goal

abbrev pub invariant-loop-id : goal.invariant-loop-id
invariant-loop-id l = record { trail : IsTrailOf l.kernel l.trail; phase : l.probe.phase ≡ l.initial.probe.phase }

abbrev pub decreases-loop-id : goal.decreases-loop-id
decreases-loop-id l = l.kernel.variables + 1 - length l.trail.steps
