use Rattle.std.proofs.Common.{◌≡◌, ◌+◌, ◌≤◌, List, Some, drop}
use Rattle.cc_defs.specs.Clauses.{Literal}
use Rattle.cc_cdcl.specs.Analysis.{level_count_in}
use Rattle.cc_cdcl.specs.Brought.{fresh_of}
use Rattle.cc_cdcl.proofs.analysis.brought.Given as goal

abbrev pub invariant-loop-lit : goal.invariant-loop-lit
invariant-loop-lit l = record {
  sum : (staged : List Literal) → l.kernel.staged ≡ Some staged →
      l.count + level_count_in l.trail.steps l.level (fresh_of l.pivot staged (drop l.lit-index l.clause)) ≡ level_count_in l.trail.steps l.level (fresh_of l.pivot staged l.clause);
  few : l.count ≤ l.lit-index;
}
