use Rattle.std.proofs.Common.{◌≡◌, ◌++◌, length}
use Rattle.cc_check.specs.Readers.{literals_of}
use Rattle.cc_defs.specs.Clauses.{IsOver}
use Rattle.cc_defs.specs.Limits.{most_variables}
use Rattle.cc_convert.proofs.held.lits_of.Given as goal

-- what is made, with what is left to make, is the whole
abbrev pub invariant-loop-named : goal.invariant-loop-named
invariant-loop-named l = (l.lits.items ++ literals_of l.rest ≡ literals_of l.literals) × IsOver most_variables (literals_of l.rest)

abbrev pub decreases-loop-named : goal.decreases-loop-named
decreases-loop-named l = length (literals_of l.rest)
