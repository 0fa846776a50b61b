use Rattle.std.proofs.Common.{◌≡◌, ◌++◌, drop}
use Rattle.cc_theory.specs.Making as words
use Rattle.cc_theory.proofs.making.add_step.Given as goal

abbrev pub invariant-loop-law : goal.invariant-loop-law
invariant-loop-law l =
    l.rules.items ++ words.rules_at_step l.stride (drop l.law-index l.laws) l.horizon l.step ≡ l.fn.rules.items ++ words.rules_at_step l.stride l.laws l.horizon l.step
