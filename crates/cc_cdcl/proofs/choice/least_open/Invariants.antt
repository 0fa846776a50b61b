use Rattle.std.proofs.Common.{◌≡◌, ℕ, ◌+◌, ◌-◌, ◌<◌, false, Some}
use Rattle.cc_trail.specs.Steps.{values_of}
use Rattle.cc_cdcl.proofs.choice.least_open.Given as goal

abbrev pub invariant-loop-value : goal.invariant-loop-value
invariant-loop-value l = (lower : ℕ) → lower < l.value → values_of l.trail.steps (l.first + lower) ≡ Some false

abbrev pub decreases-loop-value : goal.decreases-loop-value
decreases-loop-value l = l.size - l.value
