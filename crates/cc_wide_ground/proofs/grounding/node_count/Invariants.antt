use Rattle.std.proofs.Common.{◌≡◌, ◌≤◌, ◌+◌, drop, map}
use Rattle.std.specs.Prelude.{min}
use Rattle.cc_wide.specs.WideGrounds.{plain_wide_ground}
use Rattle.cc_wide_ground.specs.WideGrounding.{wide_nodes_in}
use Rattle.cc_wide_ground.proofs.grounding.node_count.Given as goal

abbrev pub invariant-loop-law : goal.invariant-loop-law
invariant-loop-law l =
    (l.count ≤ 16000001)
    × (min (l.count + wide_nodes_in (map plain_wide_ground (drop l.law-index l.laws))) 16000001 ≡ min (wide_nodes_in (map plain_wide_ground l.laws)) 16000001)
