use Rattle.std.proofs.Common.{List}
use Rattle.cc_defs.specs.Clauses.{Literal}
use Rattle.cc_log.specs.Entries.{AreLiteralsIn}
use Rattle.cc_check.proofs.entry.behind_literals.Given as goal

abbrev pub invariant-loop : goal.invariant-loop
invariant-loop l = (made : List Literal) × AreLiteralsIn l.counter l.bytes made l.rest
