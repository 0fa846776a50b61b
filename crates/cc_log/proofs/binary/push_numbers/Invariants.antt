use Rattle.std.proofs.Common.{◌≡◌, ◌++◌, drop, flat_map}
use Rattle.cc_defs.specs.LogBytes.{number_bytes}
use Rattle.cc_log.proofs.binary.push_numbers.Given as goal

-- the bytes so far, with what is left to write, are the whole
abbrev pub invariant-loop-number : goal.invariant-loop-number
invariant-loop-number l = l.bytes.items ++ flat_map number_bytes (drop l.number-index l.numbers) ≡ l.initial.bytes.items ++ flat_map number_bytes l.numbers
