use Rattle.cc_text.proofs.Cuts.{one_stop}
use Rattle.cc_text.proofs.theorems.one_stop.Goals as goal

pub returns : goal.returns
returns c = one_stop
