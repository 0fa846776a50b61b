use Rattle.std.proofs.Common.{◌≡◌, ◌+◌, ◌≤◌, ◌++◌, sum, drop}
use Rattle.cc_form.specs.Places.{firsts}
use Rattle.cc_form.proofs.places.firsts_of.Given as goal

abbrev pub invariant-loop-size : goal.invariant-loop-size
invariant-loop-size l = record {
  fits : l.first + sum (drop l.size-index l.sizes) ≤ 4000001;
  all : l.firsts.items ++ firsts l.first (drop l.size-index l.sizes) ≡ firsts 1 l.sizes;
}
