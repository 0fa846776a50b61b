-- Each of the two rows is tried.
use Rattle.std.proofs.Common.{refl}
use Rattle.cc_tests_texts.proofs.Finite.{model, no_model}
use Rattle.cc_tests_texts.proofs.examples.falsity_forbids.Goals as goal

pub returns : goal.returns
returns c = (model _ _ _ refl, no_model _ _ _ refl)
