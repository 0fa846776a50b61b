use Rattle.std.proofs.Common.{◌+◌, ◌-◌, length}
use Rattle.cc_cdcl.specs.Searches.{IsSearching}
use Rattle.cc_cdcl.proofs.search.descend.Given as goal

abbrev pub invariant-loop-id : goal.invariant-loop-id
invariant-loop-id l = IsSearching l.sizes l.kernel l.trail l.cursors

abbrev pub decreases-loop-id : goal.decreases-loop-id
decreases-loop-id l = l.kernel.variables + 1 - length l.trail.steps
