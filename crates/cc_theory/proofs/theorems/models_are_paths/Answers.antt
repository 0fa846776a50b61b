use Rattle.cc_theory.proofs.Meant.{paths}
use Rattle.cc_theory.proofs.theorems.models_are_paths.Goals as goal

pub returns : goal.returns
returns c = paths (record {
  terms_mean = c.terms_mean_formulas.ensures;
  one = c.one_formula.ensures;
  heads_mean = c.heads_mean_heads.ensures;
  there = c.heads_there_are_ground.ensures;
})
