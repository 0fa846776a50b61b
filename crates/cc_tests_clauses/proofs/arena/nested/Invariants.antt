use Rattle.cc_defs.specs.Terms.{IsTerm}
use Rattle.cc_tests_clauses.proofs.arena.nested.Given as goal

abbrev pub invariant-loop-level : goal.invariant-loop-level
invariant-loop-level l = IsTerm 0 l.nodes.items
