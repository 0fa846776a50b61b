use Rattle.std.proofs.Common.{◌≡◌}
use Rattle.std.specs.List.{AllByRecursion}
use Rattle.cc_defs.specs.Terms.{Operands, NamesBelow, operand_count, postfixes}
use Rattle.cc_tests_clauses.proofs.arena.flat.Given as goal

abbrev pub invariant-loop-place : goal.invariant-loop-place
invariant-loop-place l = (operands : Operands) × (l.nodes.items ≡ postfixes operands) × (operand_count operands ≡ l.place) × AllByRecursion (NamesBelow 1) l.nodes.items
