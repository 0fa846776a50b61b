use Rattle.std.proofs.Common.{◌≡◌, ◌++◌, flat_map}
use Rattle.cc_defs.specs.Rules.{upto}
use Rattle.cc_theory.specs.Making as words
use Rattle.cc_theory.proofs.making.all_rules.Given as goal

abbrev pub invariant-loop-step : goal.invariant-loop-step
invariant-loop-step l =
    l.rules.items ≡ words.all_initial 0 l.sig.fluents ++ flat_map (words.rules_at_step (words.stride_of l.sig) l.laws l.horizon) (upto l.step)
