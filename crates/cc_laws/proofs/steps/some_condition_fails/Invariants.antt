use Rattle.std.proofs.Common.{◌≡◌, map, drop}
use Rattle.std.specs.List.{list_any}
use Rattle.cc_defs.specs.Resolved.{plain_condition}
use Rattle.cc_laws.specs.Questions.{condition_fails}
use Rattle.cc_laws.specs.Vocabulary.{vocabulary_of}
use Rattle.cc_laws.proofs.steps.some_condition_fails.Given as goal

abbrev pub invariant-loop-condition : goal.invariant-loop-condition
invariant-loop-condition l =
    list_any (condition_fails (vocabulary_of l.table).symbols l.lo) (map plain_condition (drop l.condition-index l.conditions))
    ≡ list_any (condition_fails (vocabulary_of l.table).symbols l.lo) (map plain_condition l.conditions)
