use Rattle.std.proofs.Common.{◌≡◌, ◌≤◌, ◌+◌, drop, length, min}
use Rattle.cc_wide.specs.WideLists.{all_initial_wide}
use Rattle.cc_rivals.proofs.counting.all_initial_count.Given as goal

abbrev pub invariant-loop-number : goal.invariant-loop-number
invariant-loop-number l =
    (l.count ≤ 8000001)
    × (min (l.count + length (all_initial_wide l.number (drop l.number l.sig.fluents))) 8000001 ≡ min (length (all_initial_wide 0 l.sig.fluents)) 8000001)
