use Rattle.std.proofs.Common.{◌≡◌, length}
use Rattle.cc_trail.specs.Trails.{Fits}
use Rattle.cc_tests_clauses.proofs.trail.add_rows.Given as goal

abbrev pub invariant-loop-index : goal.invariant-loop-index
invariant-loop-index l = Fits l.trail l.kernel × (l.trail.attached ≡ length l.kernel.entries)
