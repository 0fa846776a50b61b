use Rattle.std.proofs.Common.{◌≡◌, ◌+◌, ◌≤◌, drop}
use Rattle.cc_cdcl.specs.Analysis.{level_count_in}
use Rattle.cc_cdcl.proofs.analysis.level_count_in.Given as goal

abbrev pub invariant-loop-lit : goal.invariant-loop-lit
invariant-loop-lit l =
    (l.count + level_count_in l.trail.steps l.level (drop l.lit-index l.clause) ≡ level_count_in l.trail.steps l.level l.clause) × (l.count ≤ l.lit-index)
