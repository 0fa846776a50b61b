use Rattle.std.proofs.Common.{◌≡◌, ◌≤◌, ◌+◌, drop, map, min}
use Rattle.cc_defs.specs.Resolved.{plain_condition}
use Rattle.cc_ground.specs.Bindings.{no_bindings}
use Rattle.cc_ground.specs.Choices.{conditions_choices}
use Rattle.cc_ground.specs.Views.{universe_of}
use Rattle.cc_ground.proofs.choosing.choices_of_conditions.Given as goal

abbrev pub invariant-loop-condition : goal.invariant-loop-condition
invariant-loop-condition l =
    let u = universe_of l.table l.sig in
    record {
      few : l.count ≤ 16000001;
      env : l.env ≡ no_bindings;
      rest : min (l.count + conditions_choices u (map plain_condition (drop l.condition-index l.conditions))) 16000001 ≡ min (conditions_choices u (map plain_condition l.conditions)) 16000001;
    }
