use Rattle.std.proofs.Common.{◌≡◌, drop}
use Rattle.cc_defs.specs.Resolved.{plain_term}
use Rattle.cc_defs.specs.Trees.{plain_sum}
use Rattle.cc_laws.specs.Resolving.{resolve_sums, resolve_sum, resolve_addends}
use Rattle.cc_laws.specs.Views.{plain_sums, plain_added, row_terms, scope_of}
use Rattle.cc_laws.specs.Vocabulary.{vocabulary_of}
use Rattle.cc_laws.proofs.TermRows.{behind}
use Rattle.cc_laws.proofs.resolving.+terms.Given as goal

abbrev pub invariant-resolve_term-loop-argument : goal.invariant-resolve_term-loop-argument
invariant-resolve_term-loop-argument l =
    behind (row_terms l.args.items) (resolve_sums (vocabulary_of l.table) (scope_of l.names) (plain_sums (drop l.argument-index l.argument-items)))
    ≡ resolve_sums (vocabulary_of l.table) (scope_of l.names) (plain_sums l.argument-items)

-- what is made, with what is left of the addends, is the whole
abbrev pub invariant-resolve_sum-loop-addend : goal.invariant-resolve_sum-loop-addend
invariant-resolve_sum-loop-addend l =
    resolve_addends (vocabulary_of l.table) (scope_of l.names) (plain_term l.made) (plain_added (drop l.addend-index l.addend-items))
    ≡ resolve_sum (vocabulary_of l.table) (scope_of l.names) (plain_sum l.sum)
