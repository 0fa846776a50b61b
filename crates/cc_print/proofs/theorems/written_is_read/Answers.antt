use Rattle.cc_print.proofs.KeyTexts.{written_is_read}
use Rattle.cc_print.proofs.theorems.written_is_read.Goals as goal

pub returns : goal.returns
returns c = written_is_read
