use Rattle.std.proofs.Common.{◌≡◌, drop}
use Rattle.cc_laws.specs.Vocabulary.{vocabulary_of}
use Rattle.cc_laws.proofs.ActionNames.{names_action, some_names_action}
use Rattle.cc_laws.proofs.steps.+term_names_action.Given as goal

-- neither the symbol nor the arguments before these are those of actions
abbrev pub invariant-loop-argument : goal.invariant-loop-argument
invariant-loop-argument l =
    names_action (vocabulary_of l.table).symbols l.term ≡ some_names_action (vocabulary_of l.table).symbols (drop l.argument-index l.argument-items)
