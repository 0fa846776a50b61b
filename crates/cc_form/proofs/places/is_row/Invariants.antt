use Rattle.std.proofs.Common.{ℕ, ◌<◌, get_or}
use Rattle.cc_form.proofs.places.is_row.Given as goal

abbrev pub invariant-loop-position : goal.invariant-loop-position
invariant-loop-position l = (k : ℕ) → k < l.position → get_or l.row k 0 < get_or l.sizes k 0
