use Rattle.std.proofs.Common.{◌≡◌, ◌+◌, ◌-◌}
use Rattle.cc_trail.specs.Steps.{values_of}
use Rattle.cc_cdcl.specs.LeastRows.{true_index}
use Rattle.cc_cdcl.specs.Sets.{assignment_of}
use Rattle.cc_cdcl.proofs.choice.true_value.Given as goal

abbrev pub invariant-loop-value : goal.invariant-loop-value
invariant-loop-value l =
    true_index (assignment_of (values_of l.trail.steps)) l.first l.size ≡
    l.value + true_index (assignment_of (values_of l.trail.steps)) (l.first + l.value) (l.size - l.value)
