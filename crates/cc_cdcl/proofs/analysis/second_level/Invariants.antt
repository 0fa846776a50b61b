use Rattle.std.proofs.Common.{◌≡◌, max, min, drop}
use Rattle.cc_cdcl.specs.Analysis.{first_level, second_level}
use Rattle.cc_cdcl.proofs.analysis.second_level.Given as goal

abbrev pub invariant-loop-lit : goal.invariant-loop-lit
invariant-loop-lit l =
    max (max l.second (min l.first (first_level l.trail.steps (drop l.lit-index l.clause)))) (second_level l.trail.steps (drop l.lit-index l.clause)) ≡
    second_level l.trail.steps l.clause
