use Rattle.std.proofs.Common.{◌≡◌, ◌+◌, ◌++◌, [], map, flat_map, drop}
use Rattle.cc_defs.specs.Resolved.{plain_condition}
use Rattle.cc_defs.specs.Trees.{plain_query_item}
use Rattle.cc_laws.specs.Questions.{brackets_asked, conditions_asked, conditions_in}
use Rattle.cc_laws.specs.Vocabulary.{vocabulary_of}
use Rattle.cc_laws.proofs.questions.conditions_of.Given as goal

abbrev pub invariant-loop-item : goal.invariant-loop-item
invariant-loop-item l = record {
  made :
      map plain_condition l.made.items ++ conditions_asked (vocabulary_of l.table) l.names.next (flat_map conditions_in (map plain_query_item (drop l.item-index l.items)))
      ≡ conditions_asked (vocabulary_of l.table) l.fn.names.next (flat_map conditions_in (map plain_query_item l.items));
  kept : l.names.bindings.items ≡ [];
  next :
      l.names.next + brackets_asked (flat_map conditions_in (map plain_query_item (drop l.item-index l.items)))
      ≡ l.fn.names.next + brackets_asked (flat_map conditions_in (map plain_query_item l.items));
}
