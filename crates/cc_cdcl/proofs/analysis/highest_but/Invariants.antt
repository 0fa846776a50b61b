use Rattle.std.proofs.Common.{◌≡◌, max, drop}
use Rattle.cc_cdcl.specs.Analysis.{highest_but}
use Rattle.cc_cdcl.proofs.analysis.highest_but.Given as goal

abbrev pub invariant-loop-lit : goal.invariant-loop-lit
invariant-loop-lit l = max l.highest (highest_but l.trail.steps l.level (drop l.lit-index l.clause)) ≡ highest_but l.trail.steps l.level l.clause
