use Rattle.std.specs.Prelude.{IsSome}
use Rattle.cc_tests_clauses.proofs.cdcl.derive.Given as goal

abbrev pub invariant-loop-index : goal.invariant-loop-index
invariant-loop-index l = IsSome l.kernel.staged
