use Rattle.cc_text.proofs.Cuts.{one_cut}
use Rattle.cc_text.proofs.theorems.one_cut.Goals as goal

pub returns : goal.returns
returns c = one_cut
