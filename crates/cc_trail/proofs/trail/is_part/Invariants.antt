use Rattle.std.proofs.Common.{◌≤◌, length, take}
use Rattle.std.specs.Prelude.{Contains}
use Rattle.cc_defs.specs.Clauses.{Literal}
use Rattle.cc_trail.proofs.trail.is_part.Given as goal

abbrev pub invariant-loop-lit : goal.invariant-loop-lit
invariant-loop-lit l = (l.met ≤ length l.part) × ((literal : Literal) → Contains (take l.met l.part) literal → Contains l.clause literal)
