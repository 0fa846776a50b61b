use Rattle.cc_rivals.proofs.Matching.{rivals_told}
use Rattle.cc_rivals.proofs.theorems.rival_lists_tell_rivals.Goals as goal

pub returns : goal.returns
returns c = λ signature laws are w of horizon row is. rivals_told c.terms_mean_formulas.ensures signature laws w are of horizon row is
