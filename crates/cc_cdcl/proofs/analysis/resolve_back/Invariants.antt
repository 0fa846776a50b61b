use Rattle.cc_cdcl.specs.Brought.{IsCounted}
use Rattle.cc_cdcl.specs.Derivations.{IsDeriving}
use Rattle.cc_cdcl.specs.Searches.{KeepsEntries}
use Rattle.cc_cdcl.proofs.analysis.resolve_back.Given as goal

abbrev pub invariant-loop-kernel : goal.invariant-loop-kernel
invariant-loop-kernel l = record {
  derivation : IsDeriving l.kernel l.trail l.walk.place;
  counted : IsCounted l.trail.steps l.trail.level_count l.kernel l.walk.held;
  kept : KeepsEntries l.initial.kernel l.kernel;
}

abbrev pub decreases-loop-kernel : goal.decreases-loop-kernel
decreases-loop-kernel l = l.walk.place
