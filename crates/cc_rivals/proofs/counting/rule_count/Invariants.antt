use Rattle.std.proofs.Common.{◌≡◌, ◌≤◌, ◌+◌, drop, length, min}
use Rattle.cc_rivals.specs.Making.{rules_for}
use Rattle.cc_rivals.proofs.Counts.{all_turns}
use Rattle.cc_rivals.proofs.counting.rule_count.Given as goal

abbrev pub invariant-loop-law : goal.invariant-loop-law
invariant-loop-law l =
    (l.count ≤ 8000001)
    × (min (l.count + all_turns l.horizon (drop l.law-index l.laws)) 8000001 ≡ min (length (rules_for l.sig l.laws l.horizon)) 8000001)
