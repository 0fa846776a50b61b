use Rattle.std.proofs.Common.{◌≡◌, drop, map}
use Rattle.std.specs.List.{list_all}
use Rattle.cc_defs.specs.Trees.{plain_shape}
use Rattle.cc_sorts.specs.Lefts.{are_numbered}
use Rattle.cc_sorts.proofs.left.have_numbers.Given as goal

abbrev pub invariant-loop-shape : goal.invariant-loop-shape
invariant-loop-shape l =
    list_all (λ shape. are_numbered l.table.sorts.names shape.sorts l.numbers) (map plain_shape (drop l.shape-index l.items))
    ≡ list_all (λ shape. are_numbered l.table.sorts.names shape.sorts l.numbers) (map plain_shape l.shapes)
