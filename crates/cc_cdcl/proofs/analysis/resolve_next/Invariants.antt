use Rattle.std.proofs.Common.{◌≡◌}
use Rattle.cc_cdcl.specs.Derivations.{IsDeriving}
use Rattle.cc_cdcl.proofs.analysis.resolve_next.Given as goal

abbrev pub invariant-loop-place : goal.invariant-loop-place
invariant-loop-place l = record { same : l.kernel ≡ l.initial.kernel; derivation : IsDeriving l.kernel l.trail l.place }
