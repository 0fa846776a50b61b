use Rattle.std.proofs.Common.{ℕ, List}
use Rattle.cc_log.specs.Entries.{AreNumbersIn}
use Rattle.cc_check.proofs.entry.behind_numbers.Given as goal

abbrev pub invariant-loop : goal.invariant-loop
invariant-loop l = (made : List ℕ) × AreNumbersIn l.counter l.bytes made l.rest
