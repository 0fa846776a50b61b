use Rattle.std.proofs.Common.{◌≡◌, ℕ, drop}
use Rattle.cc_defs.specs.Resolved.{plain_formula}
use Rattle.cc_defs.specs.Satisfaction.{bind, satisfied}
use Rattle.cc_ground.specs.Bindings.{environment_of}
use Rattle.cc_ground.specs.Outermost.{bracket_truth}
use Rattle.cc_ground.specs.Views.{bare_universe}
use Rattle.cc_ground.proofs.conditions.+passing.Given as goal

abbrev pub invariant-bracket_passes-loop-object : goal.invariant-bracket_passes-loop-object
invariant-bracket_passes-loop-object l = record {
  env : l.env ≡ l.fn.env;
  rest :
      bracket_truth l.all (λ (object : ℕ). satisfied (bare_universe l.table) (λ number. 0) (bind l.variable object (environment_of l.fn.env)) (plain_formula l.formula)) (drop l.object-index l.object-items)
      ≡ bracket_truth l.all (λ (object : ℕ). satisfied (bare_universe l.table) (λ number. 0) (bind l.variable object (environment_of l.fn.env)) (plain_formula l.formula)) l.object-items;
}
