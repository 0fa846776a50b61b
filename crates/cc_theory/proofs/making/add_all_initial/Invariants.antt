use Rattle.std.proofs.Common.{◌≡◌, ◌++◌, drop}
use Rattle.cc_theory.specs.Making as words
use Rattle.cc_theory.proofs.making.add_all_initial.Given as goal

abbrev pub invariant-loop-number : goal.invariant-loop-number
invariant-loop-number l = l.rules.items ++ words.all_initial l.number (drop l.number l.sig.fluents) ≡ l.fn.rules.items ++ words.all_initial 0 l.sig.fluents
