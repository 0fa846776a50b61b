use Rattle.std.proofs.Common.{◌≡◌, ◌++◌, drop}
use Rattle.cc_laws.specs.Expansion.{sort_ranges}
use Rattle.cc_laws.specs.Vocabulary.{vocabulary_of}
use Rattle.cc_laws.proofs.expansion.sort_ranges.Given as goal

abbrev pub invariant-loop-variable : goal.invariant-loop-variable
invariant-loop-variable l =
    l.ranges.items ++ sort_ranges (vocabulary_of l.table) (drop l.variable-index l.variables) ≡ sort_ranges (vocabulary_of l.table) l.variables
