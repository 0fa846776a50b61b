use Rattle.std.proofs.Common.{refl}
use Rattle.cc_tests_texts.proofs.examples.pairs_are_in_order.Goals as goal

pub returns : goal.returns
returns c = (refl, refl)
