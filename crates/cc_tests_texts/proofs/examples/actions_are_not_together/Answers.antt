-- Each row is tried.
use Rattle.std.proofs.Common.{refl}
use Rattle.cc_tests_texts.proofs.Finite.{model, no_model}
use Rattle.cc_tests_texts.proofs.examples.actions_are_not_together.Goals as goal

pub returns : goal.returns
returns c = (model _ _ _ refl, no_model _ _ _ refl, model _ _ _ refl, model _ _ _ refl, model _ _ _ refl)
