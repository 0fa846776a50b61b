use Rattle.std.proofs.Common.{◌≡◌, ◌++◌, true, drop, flat_map}
use Rattle.cc_defs.specs.LogBytes.{number_bytes}
use Rattle.cc_log.proofs.WrittenBytes.{links, AreLinks}
use Rattle.cc_log.proofs.binary.push_chain.Given as goal

-- the bytes so far, with what is left to write, are the whole
abbrev pub invariant-loop-number : goal.invariant-loop-number
invariant-loop-number l =
    (l.bytes.items ++ flat_map number_bytes (links l.names l.own (drop l.number-index l.chain)) ≡ l.initial.bytes.items ++ flat_map number_bytes (links true l.own l.chain))
    × AreLinks l.names l.own (drop l.number-index l.chain)
