use Rattle.std.proofs.Common.{◌≡◌, ◌++◌, map}
use Rattle.cc_defs.specs.Rules.{upto}
use Rattle.cc_theory.specs.Making as words
use Rattle.cc_theory.proofs.making.add_values.Given as goal

abbrev pub invariant-loop-value : goal.invariant-loop-value
invariant-loop-value l = l.rules.items ≡ l.fn.rules.items ++ map (words.initial_rule l.number) (upto l.value)
