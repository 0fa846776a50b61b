use Rattle.std.proofs.Common.{map, take}
use Rattle.cc_sorts.specs.Searches.{Grows}
use Rattle.cc_sorts.proofs.left.add_names.Given as goal

abbrev pub invariant-loop-name : goal.invariant-loop-name
invariant-loop-name l = Grows l.initial.found.keys l.found.keys (map (λ name. name.now) (take l.name-index l.names))
