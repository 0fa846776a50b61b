use Rattle.std.proofs.Common.{◌≡◌, ◌==◌, length, drop}
use Rattle.std.specs.List.{slice_split}
use Rattle.cc_print.specs.Keys.{numbers_read}
use Rattle.cc_print.proofs.KeyTexts.{behind}
use Rattle.cc_print.proofs.keys.read_indexes.Given as goal

-- what was read, with what is left to read, is the whole
abbrev pub invariant-loop-part : goal.invariant-loop-part
invariant-loop-part l =
    record {
      can : goal.iterator-loop-part.can_next l.part-iterator;
      finite : goal.iterator-loop-part.is_finite l.part-iterator;
      whole : numbers_read (slice_split (λ b. b == 44) l.text) ≡ behind l.row.items (numbers_read (drop (length l.yielded) (slice_split (λ b. b == 44) l.text)));
    }
