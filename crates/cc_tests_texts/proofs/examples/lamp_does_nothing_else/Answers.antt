-- The one step is no transition.
use Rattle.std.proofs.Common.{refl}
use Rattle.cc_tests_texts.specs.Examples.{lamp}
use Rattle.cc_tests_texts.proofs.Finite.{no_path}
use Rattle.cc_tests_texts.proofs.examples.lamp_does_nothing_else.Goals as goal

pub returns : goal.returns
returns c = (no_path lamp 0 _ refl, no_path lamp 0 _ refl)
