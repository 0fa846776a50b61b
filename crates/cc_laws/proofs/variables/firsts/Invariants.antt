use Rattle.std.proofs.Common.{◌≡◌, ◌++◌, drop}
use Rattle.cc_laws.specs.FreeVariables as words
use Rattle.cc_laws.proofs.variables.firsts.Given as goal

abbrev pub invariant-loop-number : goal.invariant-loop-number
invariant-loop-number l = l.kept.items ++ words.firsts_after l.kept.items (drop l.number-index l.numbers) ≡ words.firsts l.numbers
