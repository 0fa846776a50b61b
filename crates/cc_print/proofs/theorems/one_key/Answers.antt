use Rattle.cc_print.proofs.KeyTexts.{one_key}
use Rattle.cc_print.proofs.theorems.one_key.Goals as goal

pub returns : goal.returns
returns c = one_key
