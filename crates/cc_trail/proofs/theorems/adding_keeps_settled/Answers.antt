use Rattle.cc_kernel.specs.Kernels.{clauses_of}
use Rattle.cc_trail.proofs.Adding.{settled_added}
use Rattle.cc_trail.proofs.theorems.adding_keeps_settled.Goals as goal

pub returns : goal.returns
returns c trail old new clause is mild settled = settled_added trail.steps trail.level_count (clauses_of old) (clauses_of new) clause is mild settled
