use Rattle.std.proofs.Common.{◌≢◌, ℕ, ◌+◌, ◌-◌, ◌<◌, ◌≤◌, None}
use Rattle.cc_trail.specs.Steps.{values_of}
use Rattle.cc_cdcl.proofs.choice.first_open.Given as goal

abbrev pub invariant-loop-variable : goal.invariant-loop-variable
invariant-loop-variable l = record {
  some : 1 ≤ l.variable;
  most : l.variable ≤ l.variables + 1;
  before : (variable : ℕ) → 0 < variable → variable < l.variable → values_of l.trail.steps variable ≢ None;
}

abbrev pub decreases-loop-variable : goal.decreases-loop-variable
decreases-loop-variable l = l.variables + 1 - l.variable
