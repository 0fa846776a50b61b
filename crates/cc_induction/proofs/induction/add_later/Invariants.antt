use Rattle.std.proofs.Common.{◌≡◌, ◌++◌, drop, map}
use Rattle.cc_arena.specs.GroundViews.{plain_ground_condition}
use Rattle.cc_induction.specs.Steps.{later_conditions}
use Rattle.cc_induction.proofs.induction.add_later.Given as goal

abbrev pub invariant-loop-condition : goal.invariant-loop-condition
invariant-loop-condition l =
    map plain_ground_condition l.made.items ++ later_conditions (map plain_ground_condition (drop l.condition-index l.conditions))
    ≡ map plain_ground_condition l.fn.made.items ++ later_conditions (map plain_ground_condition l.conditions)
