use Rattle.std.proofs.Common.{length}
use Rattle.cc_defs.specs.Logs.{IsNoHeading}
use Rattle.cc_check.proofs.Parted.{InsideSoFar}
use Rattle.cc_check.proofs.sections.inside_of.Given as goal

abbrev pub invariant-loop-rest : goal.invariant-loop-rest
invariant-loop-rest l = InsideSoFar l.version (IsNoHeading l.version) l.all l.rest l.count

abbrev pub decreases-loop-rest : goal.decreases-loop-rest
decreases-loop-rest l = length l.rest
