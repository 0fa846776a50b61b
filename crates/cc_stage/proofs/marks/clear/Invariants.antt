use Rattle.std.proofs.Common.{◌≡◌, drop, length}
use Rattle.cc_stage.specs.Marks.{IsCovered}
use Rattle.cc_stage.proofs.marks.clear.Given as goal

abbrev pub invariant-loop-literal : goal.invariant-loop-literal
invariant-loop-literal l = IsCovered l.marks.items (drop l.literal-index l.touched) × (length l.marks.items ≡ length l.initial.marks.items)
