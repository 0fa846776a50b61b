use Rattle.cc_text.proofs.Cuts.{cut_or_stop}
use Rattle.cc_text.proofs.theorems.cut_or_stop.Goals as goal

pub returns : goal.returns
returns c = cut_or_stop
