use Rattle.std.proofs.Common.{◌≡◌, None, drop, map}
use Rattle.std.specs.Option.{option_map}
use Rattle.cc_arena.specs.GroundViews.{plain_ground_condition}
use Rattle.cc_induction.specs.Steps.{joined_nodes}
use Rattle.cc_induction.proofs.induction.join_last.Given as goal

abbrev pub invariant-loop-condition : goal.invariant-loop-condition
invariant-loop-condition l =
    joined_nodes (option_map (λ joined. joined.items) l.joined) (map plain_ground_condition (drop l.condition-index l.conditions))
    ≡ joined_nodes None (map plain_ground_condition l.conditions)
