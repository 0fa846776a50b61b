use Rattle.cc_rivals.proofs.Supporting.{models_supported}
use Rattle.cc_rivals.proofs.theorems.models_are_supported.Goals as goal

pub returns : goal.returns
returns c = models_supported c.terms_mean_formulas.ensures
