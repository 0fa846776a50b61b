use Rattle.std.proofs.Common.{◌≡◌, ℕ, ◌++◌, map, flat_map, take}
use Rattle.cc_defs.specs.Declarations.{object_declarations}
use Rattle.cc_defs.specs.Trees.{plain_obj_item}
use Rattle.cc_sorts.specs.Declaring.{plain_declarations}
use Rattle.cc_sorts.proofs.declaration.add_object_items.Given as goal

abbrev pub invariant-loop-item : goal.invariant-loop-item
invariant-loop-item l = (file line : ℕ) →
    plain_declarations file line l.found.items ≡ plain_declarations file line l.initial.found.items ++ flat_map (object_declarations) (map plain_obj_item (take l.item-index l.items))
