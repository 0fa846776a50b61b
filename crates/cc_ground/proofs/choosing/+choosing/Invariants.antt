use Rattle.std.proofs.Common.{◌≡◌, ◌≤◌, ◌+◌, drop, min}
use Rattle.cc_defs.specs.Resolved.{plain_formula}
use Rattle.cc_ground.specs.Bindings.{environment_of}
use Rattle.cc_ground.specs.Choices.{bracket_choices}
use Rattle.cc_ground.specs.Views.{universe_of}
use Rattle.cc_ground.proofs.choosing.+choosing.Given as goal

abbrev pub invariant-with_instances-loop-object : goal.invariant-with_instances-loop-object
invariant-with_instances-loop-object l = record {
  few : l.total ≤ 16000001;
  env : l.env ≡ l.fn.env;
  rest :
      min (l.total + bracket_choices (universe_of l.table l.sig) (environment_of l.fn.env) l.variable (plain_formula l.formula) (drop l.object-index l.object-items)) 16000001
      ≡ min (l.count + bracket_choices (universe_of l.table l.sig) (environment_of l.fn.env) l.variable (plain_formula l.formula) l.object-items) 16000001;
}
