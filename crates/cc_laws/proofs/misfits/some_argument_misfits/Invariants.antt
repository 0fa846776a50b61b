use Rattle.std.proofs.Common.{◌≡◌}
use Rattle.cc_laws.specs.FormulaFaults.{some_argument_misfits}
use Rattle.cc_laws.specs.Views.{plain_sums}
use Rattle.cc_laws.specs.Vocabulary.{vocabulary_of}
use Rattle.cc_laws.proofs.Fitted.{misfits_from}
use Rattle.cc_laws.proofs.misfits.some_argument_misfits.Given as goal

abbrev pub invariant-loop-place : goal.invariant-loop-place
invariant-loop-place l = misfits_from (vocabulary_of l.table) l.sorts l.args l.place ≡ some_argument_misfits (vocabulary_of l.table) l.sorts (plain_sums l.args)
