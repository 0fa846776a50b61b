use Rattle.std.proofs.Common.{◌≡◌, ◌+◌, drop}
use Rattle.cc_dimacs.proofs.FirstWords.{word_length}
use Rattle.cc_dimacs.proofs.words.cut_word.Given as goal

abbrev pub invariant-loop-i : goal.invariant-loop-i
invariant-loop-i l = l.i + word_length (drop l.i l.text) ≡ word_length l.text
