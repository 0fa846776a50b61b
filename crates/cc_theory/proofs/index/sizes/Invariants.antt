use Rattle.std.proofs.Common.{◌≡◌, ◌++◌, drop}
use Rattle.cc_theory.specs.Groups.{sizes_of}
use Rattle.cc_theory.proofs.index.sizes.Given as goal

abbrev pub invariant-loop-number : goal.invariant-loop-number
invariant-loop-number l = l.sizes.items ++ drop l.number (sizes_of l.sig) ≡ sizes_of l.sig
