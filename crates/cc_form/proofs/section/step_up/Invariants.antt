use Rattle.std.proofs.Common.{◌≡◌, ◌+◌, ◌*◌, length}
use Rattle.cc_form.specs.Machine.{IsRan, run}
use Rattle.cc_form.specs.Making.{key_up}
use Rattle.cc_form.proofs.section.step_up.Given as goal

abbrev pub invariant-loop-pair : goal.invariant-loop-pair
invariant-loop-pair l = record {
  ran : IsRan l.initial.writer l.writer (run l.initial.writer.places (key_up l.pair) l.initial.writer.stack.items l.initial.writer.last);
  long : length l.writer.stack.items + 2 * l.pair ≡ length l.initial.writer.stack.items;
}
