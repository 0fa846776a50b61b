use Rattle.cc_defs.specs.Resolved.{plain_base_law}
use Rattle.cc_defs.specs.Trees.{plain_const_item, plain_shape}
use Rattle.cc_laws.specs.Vocabulary.{vocabulary_of}
use Rattle.cc_laws.proofs.Gathered.{added_more, added_all}
use Rattle.cc_laws.proofs.ItemLaws.{laws_of_shape}
use Rattle.cc_laws.proofs.expansion.add_item.Goals as goal

pub loop-shape-preserved : goal.loop-shape-preserved
loop-shape-preserved c =
    added_more plain_base_law (laws_of_shape c.args.file (vocabulary_of c.args.table.now) c.args.line (plain_const_item c.args.item.now)) plain_shape c.items-shapes.result.now c.loop-shape.shape-index c.shape-item.result
    c.loop-shape.laws.items c.add_constant_laws.new.laws.items _ c.loop-shape-test.true c.shape-item.is c.in_ok-add_constant_laws.ensures c.loop-shape.invariant

pub returns : goal.returns
returns c =
    added_all plain_base_law (laws_of_shape c.args.file (vocabulary_of c.args.table.now) c.args.line (plain_const_item c.args.item.now)) plain_shape c.items-shapes.result.now c.loop-shape.shape-index
    c.loop-shape.laws.items _ c.loop-shape-test.false c.loop-shape.invariant
