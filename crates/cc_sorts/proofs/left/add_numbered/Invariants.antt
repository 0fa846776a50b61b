use Rattle.std.proofs.Common.{map, take}
use Rattle.cc_sorts.specs.Searches.{Grows}
use Rattle.cc_sorts.specs.SortViews.{name_at}
use Rattle.cc_sorts.proofs.left.add_numbered.Given as goal

abbrev pub invariant-loop-number : goal.invariant-loop-number
invariant-loop-number l = Grows l.initial.found.keys l.found.keys (map (name_at l.sorts) (take l.number-index l.numbers))
