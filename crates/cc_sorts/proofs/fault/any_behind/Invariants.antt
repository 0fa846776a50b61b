use Rattle.std.proofs.Common.{ℕ, List}
use Rattle.cc_defs.specs.Declarations.{Declaration}
use Rattle.cc_sorts.specs.Lefts.{IsLeft, fault_of}
use Rattle.cc_sorts.proofs.Passes.{HasPassed}
use Rattle.cc_sorts.proofs.fault.any_behind.Given as goal

abbrev pub invariant-loop-declaration : goal.invariant-loop-declaration
invariant-loop-declaration l = (file line : ℕ) (declared : List Declaration) → IsLeft l.fn.left declared → HasPassed (fault_of l.fault) l.new l.declaration-index l.left file line declared
