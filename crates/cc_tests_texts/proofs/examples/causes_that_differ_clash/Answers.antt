-- No row satisfies both heads.
use Rattle.std.proofs.Common.{refl}
use Rattle.cc_tests_texts.proofs.Finite.{none}
use Rattle.cc_tests_texts.proofs.examples.causes_that_differ_clash.Goals as goal

pub returns : goal.returns
returns c = none _ _ refl
