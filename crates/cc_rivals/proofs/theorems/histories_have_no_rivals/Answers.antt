use Rattle.cc_rivals.proofs.Generals.{no_rivals}
use Rattle.cc_rivals.proofs.theorems.histories_have_no_rivals.Goals as goal

pub returns : goal.returns
returns c = no_rivals
