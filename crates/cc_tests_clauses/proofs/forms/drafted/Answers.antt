use Rattle.std.proofs.Common.{◌∙◌}
use Rattle.cc_tests_clauses.proofs.Positions.{either_over}
use Rattle.cc_tests_clauses.proofs.forms.drafted.Goals as goal

pub literal-requires-clause-term : goal.literal-requires-clause-term
literal-requires-clause-term c = either_over c.in_ok-draft.draft.places c.either.result (c.in_ok-draft.ensures.places ∙ c.in_ok-sizes.ensures.items) c.either.ensures
