use Rattle.std.proofs.Common.{◌≡◌, ◌≤◌, ◌+◌, drop, map, min}
use Rattle.cc_defs.specs.Resolved.{plain_base_law}
use Rattle.cc_ground.specs.Counting.{instances_of_all}
use Rattle.cc_ground.specs.Views.{universe_of}
use Rattle.cc_ground.proofs.counting.count_all.Given as goal

abbrev pub invariant-loop-law : goal.invariant-loop-law
invariant-loop-law l =
    let u = universe_of l.table l.sig in
    (l.count ≤ 1000001)
    × (min (l.count + instances_of_all u (map plain_base_law (drop l.law-index l.laws))) 1000001 ≡ min (instances_of_all u (map plain_base_law l.laws)) 1000001)
