use Rattle.std.proofs.Common.{◌≡◌, map, flat_map, drop}
use Rattle.std.specs.List.{list_any}
use Rattle.cc_defs.specs.Trees.{plain_query_item}
use Rattle.cc_laws.specs.Views.{fails}
use Rattle.cc_laws.specs.Questions.{formulas_in}
use Rattle.cc_laws.specs.Vocabulary.{vocabulary_of}
use Rattle.cc_laws.proofs.questions.query_fails.Given as goal

abbrev pub invariant-loop-item : goal.invariant-loop-item
invariant-loop-item l =
    list_any (fails (vocabulary_of l.table) l.check) (flat_map formulas_in (map plain_query_item (drop l.item-index l.items)))
    ≡ list_any (fails (vocabulary_of l.table) l.check) (flat_map formulas_in (map plain_query_item l.items))
