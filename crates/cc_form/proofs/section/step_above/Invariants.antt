use Rattle.std.proofs.Common.{◌≡◌, ◌+◌, ◌-◌, length}
use Rattle.cc_form.specs.Machine.{IsRan, run}
use Rattle.cc_form.specs.Making.{nodes_above}
use Rattle.cc_form.proofs.section.step_above.Given as goal

abbrev pub invariant-loop-more : goal.invariant-loop-more
invariant-loop-more l = record {
  ran : IsRan l.initial.writer l.writer (run l.initial.writer.places (nodes_above l.position l.value (l.more - (l.value + 1))) l.initial.writer.stack.items l.initial.writer.last);
  long : length l.writer.stack.items ≡ length l.initial.writer.stack.items + (l.more - (l.value + 1));
}
