use Rattle.std.proofs.Common.{◌≡◌, ◌≤◌, ◌*◌, drop, min}
use Rattle.cc_ground.specs.Views.{universe_of}
use Rattle.cc_ground.proofs.Tallies.{choices_of}
use Rattle.cc_ground.proofs.counting.choice_count.Given as goal

abbrev pub invariant-loop-range : goal.invariant-loop-range
invariant-loop-range l =
    let u = universe_of l.table l.sig in
    (l.count ≤ 1000001) × (min (l.count * choices_of u (drop l.range-index l.ranges)) 1000001 ≡ min (choices_of u l.ranges) 1000001)
