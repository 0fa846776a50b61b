use Rattle.std.proofs.Common.{◌≡◌, drop}
use Rattle.cc_defs.specs.Trees.{plain_sum, plain_term}
use Rattle.cc_laws.specs.FormulaFaults as faults
use Rattle.cc_laws.specs.Views.{asks}
use Rattle.cc_laws.specs.Vocabulary.{vocabulary_of}
use Rattle.cc_laws.proofs.Mentions.{sums_have, addends_have}
use Rattle.cc_laws.proofs.mention.+has.Given as goal

-- neither the name nor the arguments before these have the property
abbrev pub invariant-term_has-loop-argument : goal.invariant-term_has-loop-argument
invariant-term_has-loop-argument l =
    faults.term_has (vocabulary_of l.table) (asks l.property) (plain_term l.term) ≡ sums_have (vocabulary_of l.table) (asks l.property) (drop l.argument-index l.argument-items)

-- no piece before these has it
abbrev pub invariant-sum_has-loop-addend : goal.invariant-sum_has-loop-addend
invariant-sum_has-loop-addend l =
    faults.sum_has (vocabulary_of l.table) (asks l.property) (plain_sum l.sum) ≡ addends_have (vocabulary_of l.table) (asks l.property) (drop l.addend-index l.addend-items)
