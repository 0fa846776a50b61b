use Rattle.std.proofs.Common.{◌≡◌, drop}
use Rattle.cc_laws.specs.FreeVariables as words
use Rattle.cc_laws.proofs.variables.some_is_new.Given as goal

abbrev pub invariant-loop-number : goal.invariant-loop-number
invariant-loop-number l = words.some_is_new l.others (drop l.number-index l.numbers) ≡ words.some_is_new l.others l.numbers
