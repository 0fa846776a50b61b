use Rattle.std.proofs.Common.{List, [], flat_map, map, refl}
use Rattle.cc_defs.specs.declared.tree.QueryItem.{QueryItem}
use Rattle.cc_defs.specs.Trees.{plain_query_item}
use Rattle.cc_laws.specs.Questions.{brackets_asked, conditions_asked, conditions_in}
use Rattle.cc_laws.specs.Vocabulary.{vocabulary_of}
use Rattle.cc_laws.proofs.Fronts.{front_all}
use Rattle.cc_laws.proofs.Scopes.{counted_all}
use Rattle.cc_laws.proofs.questions.conditions_of.Goals as goal

pub returns-clause-made : goal.returns-clause-made
returns-clause-made c =
    let v = vocabulary_of c.args.table.now in
    front_all (λ (l : List QueryItem). conditions_asked v c.loop-item.names.next (flat_map conditions_in (map plain_query_item l))) (λ _. []) c.args.items.now c.loop-item.item-index _ _ c.loop-item.invariant.made refl c.loop-item-test.false

pub returns-clause-next : goal.returns-clause-next
returns-clause-next c =
    counted_all (λ (l : List QueryItem). brackets_asked (flat_map conditions_in (map plain_query_item l))) c.args.items.now c.loop-item.item-index c.loop-item.names.next _ refl c.loop-item-test.false c.loop-item.invariant.next
