use Rattle.std.proofs.Common.{◌≡◌, length}
use Rattle.cc_defs.specs.Trees.{plain_tree}
use Rattle.cc_syntax.specs.Formulas.{stack, closed}
use Rattle.cc_syntax.proofs.frames.close.Given as goal

abbrev pub invariant-loop-frame : goal.invariant-loop-frame
invariant-loop-frame l =
    closed l.bound (stack l.initial.frames.items) (plain_tree l.initial.whole.value) ≡ closed l.bound (stack l.frames.items) (plain_tree l.whole.value)

abbrev pub decreases-loop-frame : goal.decreases-loop-frame
decreases-loop-frame l = length l.frames.items
