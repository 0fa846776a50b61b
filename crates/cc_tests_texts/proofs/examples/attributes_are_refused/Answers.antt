use Rattle.std.proofs.Common.{refl}
use Rattle.cc_tests_texts.proofs.examples.attributes_are_refused.Goals as goal

pub returns : goal.returns
returns c = (refl, refl, refl, refl, refl, refl)
