use Rattle.std.proofs.Common.{◌≡◌, ◌++◌, drop}
use Rattle.cc_defs.specs.Trees.{plain_sum, plain_term}
use Rattle.cc_laws.specs.FreeVariables as words
use Rattle.cc_laws.specs.Vocabulary.{vocabulary_of}
use Rattle.cc_laws.proofs.Unbound.{unbound_in, unbound_added}
use Rattle.cc_laws.proofs.variables.+unbound.Given as goal

abbrev pub invariant-add_unbound-loop-argument : goal.invariant-add_unbound-loop-argument
invariant-add_unbound-loop-argument l =
    l.found.items ++ unbound_in (vocabulary_of l.table) l.bound (drop l.argument-index l.argument-items)
    ≡ l.fn.found.items ++ words.unbound l.bound (words.term_variables (vocabulary_of l.table) (plain_term l.term))

abbrev pub invariant-add_unbound_sum-loop-addend : goal.invariant-add_unbound_sum-loop-addend
invariant-add_unbound_sum-loop-addend l =
    l.found.items ++ unbound_added (vocabulary_of l.table) l.bound (drop l.addend-index l.addend-items)
    ≡ l.fn.found.items ++ words.unbound l.bound (words.sum_variables (vocabulary_of l.table) (plain_sum l.sum))
