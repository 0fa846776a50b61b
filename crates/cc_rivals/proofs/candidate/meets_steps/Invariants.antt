use Rattle.std.proofs.Common.{◌≡◌, ◌+◌, drop, flat_map}
use Rattle.cc_defs.specs.Rules.{upto}
use Rattle.cc_rivals.specs.Making.{rules_at_step}
use Rattle.cc_rivals.specs.Meets.{rules_met}
use Rattle.cc_rivals.proofs.candidate.meets_steps.Given as goal

abbrev pub invariant-loop-step : goal.invariant-loop-step
invariant-loop-step l =
    rules_met l.row (flat_map (rules_at_step l.stride l.laws l.horizon) (drop l.step (upto (l.horizon + 1)))) ≡ rules_met l.row (flat_map (rules_at_step l.stride l.laws l.horizon) (upto (l.horizon + 1)))
