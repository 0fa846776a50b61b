use Rattle.std.proofs.Common.{◌≡◌, ◌+◌, ◌++◌, ◌≤◌, length, take, drop}
use Rattle.std.specs.List.{sum}
use Rattle.cc_trail.specs.Steps.{values_of}
use Rattle.cc_cdcl.specs.LeastRows.{row_from, row_of}
use Rattle.cc_cdcl.specs.Sets.{assignment_of}
use Rattle.cc_cdcl.proofs.solver.write_row.Given as goal

abbrev pub invariant-loop-index : goal.invariant-loop-index
invariant-loop-index l = record {
  room : length l.row ≡ length l.sizes;
  some : 1 ≤ l.first;
  within : l.first + sum (drop l.index l.sizes) ≤ l.trail.variables + 1;
  rows : take l.index l.row ++ row_from l.first (drop l.index l.sizes) (assignment_of (values_of l.trail.steps)) ≡
      row_of l.sizes (assignment_of (values_of l.trail.steps));
}
