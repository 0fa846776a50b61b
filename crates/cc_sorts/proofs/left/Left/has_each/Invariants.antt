use Rattle.std.proofs.Common.{◌≡◌, drop}
use Rattle.std.specs.List.{list_all}
use Rattle.cc_sorts.specs.Lefts.{left_has_sort}
use Rattle.cc_sorts.proofs.left.Left.has_each.Given as goal

abbrev pub invariant-loop-name : goal.invariant-loop-name
invariant-loop-name l = list_all (λ name. left_has_sort l.self name.now) (drop l.name-index l.names) ≡ list_all (λ name. left_has_sort l.self name.now) l.names
