use Rattle.std.proofs.Common.{◌≡◌, map, drop}
use Rattle.std.specs.List.{list_any}
use Rattle.cc_defs.specs.Trees.{plain_tree}
use Rattle.cc_laws.specs.Views.{fails}
use Rattle.cc_laws.specs.Vocabulary.{vocabulary_of}
use Rattle.cc_laws.proofs.questions.some_fails.Given as goal

abbrev pub invariant-loop-formula : goal.invariant-loop-formula
invariant-loop-formula l =
    list_any (fails (vocabulary_of l.table) l.check) (map plain_tree (drop l.formula-index l.formulas))
    ≡ list_any (fails (vocabulary_of l.table) l.check) (map plain_tree l.formulas)
