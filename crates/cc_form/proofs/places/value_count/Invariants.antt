use Rattle.std.proofs.Common.{◌≡◌, ◌+◌, ◌≤◌, min, sum, drop}
use Rattle.cc_form.proofs.places.value_count.Given as goal

abbrev pub invariant-loop-size : goal.invariant-loop-size
invariant-loop-size l = record {
  small : l.count ≤ 4000001;
  all : min (l.count + sum (drop l.size-index l.sizes)) 4000001 ≡ min (sum l.sizes) 4000001;
}
