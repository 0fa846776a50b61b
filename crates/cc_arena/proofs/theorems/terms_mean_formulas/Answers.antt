use Rattle.cc_arena.proofs.Meaning.{means}
use Rattle.cc_arena.proofs.theorems.terms_mean_formulas.Goals as goal

pub returns : goal.returns
returns c = means
