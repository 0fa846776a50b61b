use Rattle.std.proofs.Common.{◌≡◌, Some, length}
use Rattle.cc_dimacs.specs.CnfTexts.{words_in}
use Rattle.cc_dimacs.specs.Reading.{is_kept, then_words}
use Rattle.cc_dimacs.proofs.progress.Progress.take_line.Given as goal

-- the words that are left make of what is taken what all make
abbrev pub invariant-loop-word : goal.invariant-loop-word
invariant-loop-word l =
    then_words (is_kept l.heading.variables) l.heading.variables l.heading.count (Some l.initial.self) (words_in l.fn.line)
    ≡ then_words (is_kept l.heading.variables) l.heading.variables l.heading.count (Some l.self) (words_in l.rest)

abbrev pub decreases-loop-word : goal.decreases-loop-word
decreases-loop-word l = length l.rest
