use Rattle.cc_theory.proofs.Meant.{completion}
use Rattle.cc_theory.proofs.theorems.models_meet_completion.Goals as goal

pub returns : goal.returns
returns c = completion (record {
  terms_mean = c.terms_mean_formulas.ensures;
  one = c.one_formula.ensures;
  heads_mean = c.heads_mean_heads.ensures;
  there = c.heads_there_are_ground.ensures;
})
