-- The formula of each term.
use Rattle.std.proofs.Common.{refl}
use Rattle.cc_defs.specs.Terms.{Truth, Falsehood, Same}
use Rattle.cc_tests_clauses.proofs.arena.same_is_evaluated_in_its_four_cases.Goals as goal

pub value-both-requires : goal.value-both-requires
value-both-requires g c = record { formula = Same Truth Truth; written = refl; names = (tt, (tt, (tt, tt))) }

pub value-first-requires : goal.value-first-requires
value-first-requires g c = record { formula = Same Truth Falsehood; written = refl; names = (tt, (tt, (tt, tt))) }

pub value-second-requires : goal.value-second-requires
value-second-requires g c = record { formula = Same Falsehood Truth; written = refl; names = (tt, (tt, (tt, tt))) }

pub value-neither-requires : goal.value-neither-requires
value-neither-requires g c = record { formula = Same Falsehood Falsehood; written = refl; names = (tt, (tt, (tt, tt))) }
