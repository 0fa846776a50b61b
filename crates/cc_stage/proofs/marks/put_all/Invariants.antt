use Rattle.std.proofs.Common.{◌≡◌, ◌+◌, ◌-◌, ◌≤◌, drop, length, vec_capacity, vec_len}
use Rattle.cc_stage.specs.Marks.{IsCovered, with_marks}
use Rattle.cc_stage.proofs.marks.put_all.Given as goal

abbrev pub invariant-loop-literal : goal.invariant-loop-literal
invariant-loop-literal l = record {
  marks : with_marks l.variable (drop l.literal-index l.clause) l.marks.items ≡ with_marks l.variable l.clause l.initial.marks.items;
  same : length l.marks.items ≡ length l.initial.marks.items;
  room : vec_len l.touched + (length l.clause - l.literal-index) ≤ vec_capacity l.touched;
  covered : IsCovered l.marks.items l.touched.items;
}
