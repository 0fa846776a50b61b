use Rattle.cc_print.proofs.KeyTexts.{written_apart}
use Rattle.cc_print.proofs.theorems.written_apart.Goals as goal

pub returns : goal.returns
returns c = written_apart
