use Rattle.std.proofs.Common.{refl}
use Rattle.cc_tests_texts.proofs.examples.tests_drop_environments.Goals as goal

pub returns : goal.returns
returns c = refl
