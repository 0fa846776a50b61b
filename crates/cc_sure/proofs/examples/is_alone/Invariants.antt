use Rattle.std.proofs.Common.{◌≡◌, ◌≢◌, ◌<◌, ℕ, slice_get, Some, true}
use Rattle.cc_sure.proofs.examples.is_alone.Given as goal

abbrev pub invariant-loop-other : goal.invariant-loop-other
invariant-loop-other l = (other : ℕ) → other < l.other → other ≢ l.value → slice_get l.never other ≡ Some true
