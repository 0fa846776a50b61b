use Rattle.std.proofs.Common.{◌≡◌, map, flat_map, drop}
use Rattle.std.specs.List.{list_any}
use Rattle.cc_defs.specs.Trees.{plain_query_item}
use Rattle.cc_laws.specs.Questions.{formulas_in, has_free}
use Rattle.cc_laws.specs.Vocabulary.{vocabulary_of}
use Rattle.cc_laws.proofs.questions.query_has_free.Given as goal

abbrev pub invariant-loop-item : goal.invariant-loop-item
invariant-loop-item l =
    list_any (has_free (vocabulary_of l.table)) (flat_map formulas_in (map plain_query_item (drop l.item-index l.items)))
    ≡ list_any (has_free (vocabulary_of l.table)) (flat_map formulas_in (map plain_query_item l.items))
