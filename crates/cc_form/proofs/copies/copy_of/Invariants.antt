use Rattle.std.proofs.Common.{◌≡◌, take}
use Rattle.cc_form.proofs.copies.copy_of.Given as goal

abbrev pub invariant-loop-index : goal.invariant-loop-index
invariant-loop-index l = l.copy ≡ take l.index l.clauses
