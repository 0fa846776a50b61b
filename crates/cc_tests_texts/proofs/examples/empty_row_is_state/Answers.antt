-- The only row is the empty one.
use Rattle.std.proofs.Common.{refl}
use Rattle.cc_tests_texts.proofs.Finite.{model}
use Rattle.cc_tests_texts.proofs.examples.empty_row_is_state.Goals as goal

pub returns : goal.returns
returns c = model _ _ _ refl
