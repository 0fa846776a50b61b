use Rattle.cc_theory.proofs.Meant.{parts}
use Rattle.cc_theory.proofs.theorems.paths_have_parts.Goals as goal

pub returns : goal.returns
returns c = parts (record {
  terms_mean = c.terms_mean_formulas.ensures;
  one = c.one_formula.ensures;
  heads_mean = c.heads_mean_heads.ensures;
  there = c.heads_there_are_ground.ensures;
})
