-- Each value of a simple fluent is its own cause.
use Rattle.std.proofs.Common.{refl}
use Rattle.cc_tests_texts.proofs.Finite.{model}
use Rattle.cc_tests_texts.proofs.examples.simple_fluents_are_free.Goals as goal

pub returns : goal.returns
returns c = (model _ _ _ refl, model _ _ _ refl, model _ _ _ refl, model _ _ _ refl)
