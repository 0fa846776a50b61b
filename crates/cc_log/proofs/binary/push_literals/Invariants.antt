use Rattle.std.proofs.Common.{◌≡◌, ◌++◌, drop, flat_map}
use Rattle.std.specs.List.{AllByRecursion}
use Rattle.cc_defs.specs.LogBytes.{literal_bytes}
use Rattle.cc_defs.specs.LogTexts.{IsShortLiteral}
use Rattle.cc_log.proofs.binary.push_literals.Given as goal

-- the bytes so far, with what is left to write, are the whole
abbrev pub invariant-loop-literal : goal.invariant-loop-literal
invariant-loop-literal l =
    (l.bytes.items ++ flat_map literal_bytes (drop l.literal-index l.literals) ≡ l.initial.bytes.items ++ flat_map literal_bytes l.literals)
    × AllByRecursion IsShortLiteral (drop l.literal-index l.literals)
