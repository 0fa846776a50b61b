use Rattle.std.proofs.Common.{◌≡◌, ◌≤◌, ◌+◌, drop, length, min}
use Rattle.cc_defs.specs.Resolved.{plain_law}
use Rattle.cc_ground.specs.Choices.{choices_with}
use Rattle.cc_ground.specs.Views.{universe_of}
use Rattle.cc_ground.proofs.choosing.+with_choices.Given as goal

abbrev pub decreases-with_choices : goal.decreases-with_choices
decreases-with_choices l = length l.ranges.now

abbrev pub invariant-loop-index : goal.invariant-loop-index
invariant-loop-index l = record {
  few : l.total ≤ 16000001;
  env : l.env ≡ l.fn.env;
  rest :
      min (l.total + choices_with (universe_of l.table l.sig) (plain_law l.law) l.fn.env.values l.others (drop l.index l.values)) 16000001
      ≡ min (l.count + choices_with (universe_of l.table l.sig) (plain_law l.law) l.fn.env.values l.others l.values) 16000001;
}
