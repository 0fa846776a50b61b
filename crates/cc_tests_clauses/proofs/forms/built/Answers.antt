use Rattle.std.proofs.Common.{ap}
use Rattle.cc_defs.specs.Sections.{Axioms}
use Rattle.cc_tests_clauses.proofs.Positions.{either_over}
use Rattle.cc_tests_clauses.proofs.forms.built.Goals as goal

pub literal-requires-clause-term : goal.literal-requires-clause-term
literal-requires-clause-term c = either_over c.in_ok-builder.builder.sizes c.either.result (ap (λ (axioms : Axioms). axioms.sizes) c.in_ok-builder.ensures.built) c.either.ensures
