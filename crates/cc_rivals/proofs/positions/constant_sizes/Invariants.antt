use Rattle.std.proofs.Common.{◌≡◌, ◌++◌, drop}
use Rattle.cc_defs.specs.Description.{domain_sizes}
use Rattle.cc_defs.specs.Signatures.{ground_constants}
use Rattle.cc_rivals.proofs.positions.constant_sizes.Given as goal

abbrev pub invariant-loop-number : goal.invariant-loop-number
invariant-loop-number l = l.sizes.items ++ drop l.number (domain_sizes (ground_constants l.sig)) ≡ domain_sizes (ground_constants l.sig)
