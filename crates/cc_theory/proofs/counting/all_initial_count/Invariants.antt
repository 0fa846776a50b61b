use Rattle.std.proofs.Common.{◌≡◌, ◌≤◌, ◌+◌, drop, length, min}
use Rattle.cc_theory.specs.Making.{all_initial}
use Rattle.cc_theory.proofs.counting.all_initial_count.Given as goal

abbrev pub invariant-loop-number : goal.invariant-loop-number
invariant-loop-number l =
    (l.count ≤ 8000001)
    × (min (l.count + length (all_initial l.number (drop l.number l.sig.fluents))) 8000001 ≡ min (length (all_initial 0 l.sig.fluents)) 8000001)
