use Rattle.std.proofs.Common.{◌≡◌, ◌++◌, map, flat_map, drop}
use Rattle.cc_defs.specs.Resolved.{plain_base_law}
use Rattle.cc_defs.specs.Trees.{plain_const_item, plain_shape}
use Rattle.cc_laws.specs.Expansion.{item_laws}
use Rattle.cc_laws.specs.Vocabulary.{vocabulary_of}
use Rattle.cc_laws.proofs.ItemLaws.{laws_of_shape}
use Rattle.cc_laws.proofs.expansion.add_item.Given as goal

abbrev pub invariant-loop-shape : goal.invariant-loop-shape
invariant-loop-shape l =
    map plain_base_law l.laws.items ++ flat_map (laws_of_shape l.file (vocabulary_of l.table) l.line (plain_const_item l.item)) (map plain_shape (drop l.shape-index l.shapes))
    ≡ map plain_base_law l.fn.laws.items ++ item_laws l.file (vocabulary_of l.table) l.line (plain_const_item l.item)
