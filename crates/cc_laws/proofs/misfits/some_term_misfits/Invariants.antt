use Rattle.std.proofs.Common.{◌≡◌, drop}
use Rattle.std.specs.List.{list_any}
use Rattle.cc_defs.specs.Trees.{plain_sum}
use Rattle.cc_laws.specs.FormulaFaults.{piece_term_misfits}
use Rattle.cc_laws.specs.Leaves.{pieces}
use Rattle.cc_laws.specs.Vocabulary.{vocabulary_of}
use Rattle.cc_laws.proofs.Fitted.{some_addend}
use Rattle.cc_laws.proofs.misfits.some_term_misfits.Given as goal

abbrev pub invariant-loop-addend : goal.invariant-loop-addend
invariant-loop-addend l = list_any (piece_term_misfits (vocabulary_of l.table)) (pieces (plain_sum l.sum)) ≡ some_addend (piece_term_misfits (vocabulary_of l.table)) (drop l.addend-index l.addend-items)
