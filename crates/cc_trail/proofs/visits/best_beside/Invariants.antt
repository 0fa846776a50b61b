use Rattle.std.proofs.Common.{◌≡◌, ◌≢◌, true, take}
use Rattle.std.specs.Prelude.{Contains}
use Rattle.cc_trail.specs.Visits.{IsBest}
use Rattle.cc_trail.proofs.visits.best_beside.Given as goal

abbrev pub invariant-loop-index : goal.invariant-loop-index
invariant-loop-index l =
    Contains l.clause l.found.lit × (l.found.lit ≢ l.except) × IsBest l.entries.steps (take l.index l.clause) l.except l.found.lit l.found.level true ×
    (l.found.is_false ≡ true)
