use Rattle.std.proofs.Common.{arith, ap, ◌∙◌, ◌++◌, map, flat_map}
use Rattle.cc_defs.specs.Declarations.{constant_declarations}
use Rattle.cc_defs.specs.Trees.{plain_const_item}
use Rattle.cc_sorts.specs.Declaring.{plain_declarations}
use Rattle.cc_sorts.proofs.Adding.{parts-more, parts-all}
use Rattle.cc_sorts.proofs.declaration.add_const_items.Goals as goal

pub loop-item-preserved : goal.loop-item-preserved
loop-item-preserved c = λ file line.
    parts-more (constant_declarations file line) plain_const_item (plain_declarations file line c.args.found.now.items) _ _ c.items-items.result.now c.loop-item.item-index c.item-item.result
    (omega (arith, c.loop-item-test.true)) c.item-item.is (c.in_ok-add_const_item.ensures file line) (c.loop-item.invariant file line)

pub returns : goal.returns
returns c = λ file line.
    parts-all (constant_declarations file line) plain_const_item (plain_declarations file line c.args.found.now.items) _ c.items-items.result.now c.loop-item.item-index
    c.loop-item-test.false (c.loop-item.invariant file line)
    ∙ ap (λ items. plain_declarations file line c.args.found.now.items ++ flat_map (constant_declarations file line) (map plain_const_item items)) c.items-items.ensures
