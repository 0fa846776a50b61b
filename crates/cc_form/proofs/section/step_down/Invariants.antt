use Rattle.std.proofs.Common.{◌≡◌, ◌+◌, ◌*◌, length}
use Rattle.cc_form.specs.Machine.{IsRan, run}
use Rattle.cc_form.specs.Making.{key_down}
use Rattle.cc_form.proofs.section.step_down.Given as goal

abbrev pub invariant-loop-position : goal.invariant-loop-position
invariant-loop-position l = record {
  ran : IsRan l.initial.writer l.writer (run l.initial.writer.places (key_down l.initial.writer.places l.row l.position) l.initial.writer.stack.items l.initial.writer.last);
  long : length l.writer.stack.items ≡ length l.initial.writer.stack.items + 2 * l.position;
}
