use Rattle.cc_defs.specs.Resolved.{plain_base_law}
use Rattle.cc_defs.specs.Trees.{plain_const_item}
use Rattle.cc_laws.specs.Expansion.{item_laws}
use Rattle.cc_laws.specs.Vocabulary.{vocabulary_of}
use Rattle.cc_laws.proofs.Gathered.{added_more, added_all}
use Rattle.std.proofs.Common.{◌++◌, List, ap, flat_map, map}
use Rattle.cc_defs.specs.declared.law.BaseLaw.{BaseLaw}
use Rattle.cc_laws.proofs.expansion.declared_laws.Goals as goal

pub loop-item-preserved : goal.loop-item-preserved
loop-item-preserved c =
    added_more plain_base_law (item_laws c.args.file (vocabulary_of c.args.table.now) c.args.line) plain_const_item c.args.items.now c.loop-item.item-index c.item-item.result
    c.loop-item.made.items c.add_item.new.laws.items _ c.loop-item-test.true c.item-item.is c.in_ok-add_item.ensures c.loop-item.invariant

pub returns : goal.returns
returns c =
    added_all plain_base_law (item_laws c.args.file (vocabulary_of c.args.table.now) c.args.line) plain_const_item c.args.items.now c.loop-item.item-index
    c.loop-item.made.items _ c.loop-item-test.false c.loop-item.invariant

pub loop-item-init : goal.loop-item-init
loop-item-init c = ap (λ (made : List BaseLaw). map plain_base_law made ++ flat_map (item_laws c.args.file (vocabulary_of c.args.table.now) c.args.line) (map plain_const_item c.args.items.now)) c.new-made.ensures.items
