use Rattle.std.proofs.Common.{◌≡◌, ◌++◌, string_bytes}
use Rattle.cc_make.specs.Locks.{name_behind, of_each}
use Rattle.cc_make.proofs.text.push_names.Given as goal

abbrev pub invariant-loop-lock : goal.invariant-loop-lock
invariant-loop-lock l = string_bytes l.text ≡ string_bytes l.fn.text ++ of_each name_behind l.lock
