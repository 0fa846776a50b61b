-- With no rule each row satisfies the reduct.
use Rattle.std.proofs.Common.{refl}
use Rattle.cc_tests_texts.proofs.Finite.{none}
use Rattle.cc_tests_texts.proofs.examples.determined_needs_cause.Goals as goal

pub returns : goal.returns
returns c = none _ _ refl
