-- The formula of each term.
use Rattle.std.proofs.Common.{refl, arith}
use Rattle.cc_defs.specs.Terms.{Truth, Falsehood, Atom}
use Rattle.cc_tests_clauses.proofs.arena.nodes_without_operands_are_evaluated.Goals as goal

pub value-truth-requires : goal.value-truth-requires
value-truth-requires g c = record { formula = Truth; written = refl; names = (tt, tt) }

pub value-falsehood-requires : goal.value-falsehood-requires
value-falsehood-requires g c = record { formula = Falsehood; written = refl; names = (tt, tt) }

pub value-has-requires : goal.value-has-requires
value-has-requires g c = record { formula = Atom 1 0; written = refl; names = (omega arith, tt) }

pub value-has_not-requires : goal.value-has_not-requires
value-has_not-requires g c = record { formula = Atom 1 0; written = refl; names = (omega arith, tt) }
