use Rattle.std.proofs.Common.{◌≡◌, map}
use Rattle.cc_defs.specs.Declarations.{upto}
use Rattle.cc_why.specs.Noting.{first_of}
use Rattle.cc_why.proofs.reasons.first_causes.Given as goal

abbrev pub invariant-loop-position : goal.invariant-loop-position
invariant-loop-position l = l.causes.items ≡ map (first_of l.sig) (upto l.position)
