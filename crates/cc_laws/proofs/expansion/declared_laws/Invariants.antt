use Rattle.std.proofs.Common.{◌≡◌, ◌++◌, map, flat_map, drop}
use Rattle.cc_defs.specs.Resolved.{plain_base_law}
use Rattle.cc_defs.specs.Trees.{plain_const_item}
use Rattle.cc_laws.specs.Expansion.{item_laws}
use Rattle.cc_laws.specs.Vocabulary.{vocabulary_of}
use Rattle.cc_laws.proofs.expansion.declared_laws.Given as goal

abbrev pub invariant-loop-item : goal.invariant-loop-item
invariant-loop-item l =
    map plain_base_law l.made.items ++ flat_map (item_laws l.file (vocabulary_of l.table) l.line) (map plain_const_item (drop l.item-index l.items))
    ≡ flat_map (item_laws l.file (vocabulary_of l.table) l.line) (map plain_const_item l.items)
