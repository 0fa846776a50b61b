use Rattle.std.proofs.Common.{◌+◌, drop, flat_map, option_map}
use Rattle.cc_defs.specs.Rules.{upto}
use Rattle.cc_rivals.specs.Making.{rules_at_step}
use Rattle.cc_rivals.specs.Putting.{put_rules}
use Rattle.cc_rivals.proofs.Folding.{Stands}
use Rattle.cc_rivals.proofs.walk.put_steps.Given as goal

abbrev pub invariant-loop-step : goal.invariant-loop-step
invariant-loop-step l = Stands (put_rules (option_map (λ row. row.now) l.row)) l.initial.draft l.draft (flat_map (rules_at_step l.stride l.laws l.horizon) (drop l.step (upto (l.horizon + 1)))) (flat_map (rules_at_step l.stride l.laws l.horizon) (upto (l.horizon + 1)))
