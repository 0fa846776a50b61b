use Rattle.std.proofs.Common.{refl}
use Rattle.cc_tests_texts.proofs.examples.constants_are_ground.Goals as goal

pub returns : goal.returns
returns c = (refl, refl)
