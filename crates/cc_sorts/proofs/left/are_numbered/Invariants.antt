use Rattle.std.proofs.Common.{◌≡◌, map, drop}
use Rattle.cc_sorts.specs.Lefts.{are_numbered}
use Rattle.cc_sorts.proofs.left.are_numbered.Given as goal

abbrev pub invariant-loop-i : goal.invariant-loop-i
invariant-loop-i l =
    are_numbered l.table.sorts.names (map (λ sort. sort.now) l.sorts) l.numbers ≡ are_numbered l.table.sorts.names (map (λ sort. sort.now) (drop l.i l.sorts)) (drop l.i l.numbers)
