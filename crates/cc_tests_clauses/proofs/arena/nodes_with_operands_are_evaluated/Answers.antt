-- The formula of each term.
use Rattle.std.proofs.Common.{refl}
use Rattle.cc_defs.specs.Terms.{Ground, Truth, Falsehood, Not, All, Any, Operands, nothing, and_then}
use Rattle.cc_tests_clauses.proofs.arena.nodes_with_operands_are_evaluated.Goals as goal

abbrev two : Ground → Ground → Operands
two first second = and_then (and_then nothing first) second

pub value-negation-requires : goal.value-negation-requires
value-negation-requires g c = record { formula = Not Truth; written = refl; names = (tt, (tt, tt)) }

pub value-all_of_none-requires : goal.value-all_of_none-requires
value-all_of_none-requires g c = record { formula = All nothing; written = refl; names = (tt, tt) }

pub value-any_of_none-requires : goal.value-any_of_none-requires
value-any_of_none-requires g c = record { formula = Any nothing; written = refl; names = (tt, tt) }

pub value-all_but_one-requires : goal.value-all_but_one-requires
value-all_but_one-requires g c = record { formula = All (two Truth Falsehood); written = refl; names = (tt, (tt, (tt, tt))) }

pub value-all_of_two-requires : goal.value-all_of_two-requires
value-all_of_two-requires g c = record { formula = All (two Truth Truth); written = refl; names = (tt, (tt, (tt, tt))) }

pub value-one_of_two-requires : goal.value-one_of_two-requires
value-one_of_two-requires g c = record { formula = Any (two Falsehood Truth); written = refl; names = (tt, (tt, (tt, tt))) }

pub value-none_of_two-requires : goal.value-none_of_two-requires
value-none_of_two-requires g c = record { formula = Any (two Falsehood Falsehood); written = refl; names = (tt, (tt, (tt, tt))) }
