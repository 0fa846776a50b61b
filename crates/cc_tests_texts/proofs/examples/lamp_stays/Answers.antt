-- The one step is a transition.
use Rattle.std.proofs.Common.{refl}
use Rattle.cc_tests_texts.specs.Examples.{lamp}
use Rattle.cc_tests_texts.proofs.Finite.{path}
use Rattle.cc_tests_texts.proofs.examples.lamp_stays.Goals as goal

pub returns : goal.returns
returns c = (path lamp 0 _ refl, path lamp 0 _ refl)
