use Rattle.std.proofs.Common.{◌≡◌, ◌++◌, map}
use Rattle.cc_arena.specs.GroundViews.{plain_ground_condition}
use Rattle.cc_induction.specs.Steps.{earlier_conditions}
use Rattle.cc_induction.proofs.induction.add_earlier.Given as goal

abbrev pub invariant-loop-step : goal.invariant-loop-step
invariant-loop-step l = map plain_ground_condition l.made.items ≡ map plain_ground_condition l.fn.made.items ++ earlier_conditions l.nodes l.step
