-- There is one row.
use Rattle.std.proofs.Common.{refl}
use Rattle.cc_tests_texts.proofs.Finite.{model}
use Rattle.cc_tests_texts.proofs.examples.one_value_needs_no_cause.Goals as goal

pub returns : goal.returns
returns c = model _ _ _ refl
