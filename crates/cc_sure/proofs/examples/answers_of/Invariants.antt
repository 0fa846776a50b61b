use Rattle.std.proofs.Common.{◌≡◌, length}
use Rattle.cc_sure.specs.Outcomes.{AreAnswersFor}
use Rattle.cc_sure.proofs.examples.answers_of.Given as goal

abbrev pub invariant-loop-value : goal.invariant-loop-value
invariant-loop-value l = AreAnswersFor l.examples l.position l.never 0 l.answers.items × (length l.answers.items ≡ l.value)
