use Rattle.std.proofs.Common.{take}
use Rattle.cc_sure.specs.SureRuns.{IsNew}
use Rattle.cc_sure.proofs.examples.first_with.Given as goal

abbrev pub invariant-loop-i : goal.invariant-loop-i
invariant-loop-i l = IsNew (take l.i l.examples) l.position l.value
