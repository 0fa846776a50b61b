use Rattle.std.proofs.Common.{◌≡◌, drop, map}
use Rattle.std.specs.List.{list_all}
use Rattle.cc_defs.specs.DeclarationFaults.{same_sorts}
use Rattle.cc_defs.specs.Trees.{plain_shape}
use Rattle.cc_sorts.proofs.left.each_has_sorts.Given as goal

abbrev pub invariant-loop-shape : goal.invariant-loop-shape
invariant-loop-shape l =
    list_all (λ shape. same_sorts shape.sorts (map (λ sort. sort.now) l.sorts)) (map plain_shape (drop l.shape-index l.items))
    ≡ list_all (λ shape. same_sorts shape.sorts (map (λ sort. sort.now) l.sorts)) (map plain_shape l.shapes)
