use Rattle.std.proofs.Common.{◌≡◌, drop}
use Rattle.cc_laws.specs.FreeVariables as words
use Rattle.cc_laws.proofs.variables.is_among.Given as goal

abbrev pub invariant-loop-other : goal.invariant-loop-other
invariant-loop-other l = words.is_among (drop l.other-index l.numbers) l.number ≡ words.is_among l.numbers l.number
