use Rattle.std.proofs.Common.{◌-◌, length}
use Rattle.cc_trail.specs.Steps.{values_of}
use Rattle.cc_cdcl.specs.Cursors.{IsCursor}
use Rattle.cc_cdcl.proofs.choice.pass_positions.Given as goal

abbrev pub invariant-loop-cursor : goal.invariant-loop-cursor
invariant-loop-cursor l = IsCursor l.sizes l.trail.variables (values_of l.trail.steps) l.cursor

abbrev pub decreases-loop-cursor : goal.decreases-loop-cursor
decreases-loop-cursor l = length l.sizes - l.cursor.position
