use Rattle.std.proofs.Common.{◌≡◌, ◌≤◌, length}
use Rattle.cc_dimacs.specs.CnfTexts.{words_in}
use Rattle.cc_dimacs.proofs.words.without_spaces.Given as goal

abbrev pub invariant-loop-rest : goal.invariant-loop-rest
invariant-loop-rest l = (words_in l.rest ≡ words_in l.fn.line) × (length l.rest ≤ length l.fn.line)

abbrev pub decreases-loop-rest : goal.decreases-loop-rest
decreases-loop-rest l = length l.rest
