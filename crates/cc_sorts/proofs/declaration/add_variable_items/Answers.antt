use Rattle.std.proofs.Common.{arith, ap, ◌∙◌, ◌++◌, map, flat_map}
use Rattle.cc_defs.specs.Declarations.{Variable, variable_declarations}
use Rattle.cc_defs.specs.Trees.{plain_list_item}
use Rattle.cc_sorts.specs.Declaring.{plain_declarations}
use Rattle.cc_sorts.proofs.Adding.{parts-more, parts-all}
use Rattle.cc_sorts.proofs.declaration.add_variable_items.Goals as goal

pub loop-item-preserved : goal.loop-item-preserved
loop-item-preserved c = λ file line.
    parts-more variable_declarations plain_list_item (plain_declarations file line c.args.found.now.items) _ _ c.items-items.result.now c.loop-item.item-index c.item-item.result
    (omega (arith, c.loop-item-test.true)) c.item-item.is
    (c.in_ok-add_variables.ensures file line
    ∙ ap (λ names. plain_declarations file line c.loop-item.found.items ++ map (λ name. Variable name c.item-item.result.sort.now) (map (λ name. name.now) names)) c.items.ensures)
    (c.loop-item.invariant file line)

pub returns : goal.returns
returns c = λ file line.
    parts-all variable_declarations plain_list_item (plain_declarations file line c.args.found.now.items) _ c.items-items.result.now c.loop-item.item-index
    c.loop-item-test.false (c.loop-item.invariant file line)
    ∙ ap (λ items. plain_declarations file line c.args.found.now.items ++ flat_map variable_declarations (map plain_list_item items)) c.items-items.ensures
