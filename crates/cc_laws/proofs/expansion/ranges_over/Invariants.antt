use Rattle.std.proofs.Common.{◌≡◌, ◌++◌, map, drop}
use Rattle.cc_defs.specs.declared.law.Range.TheVariants as ranges
use Rattle.cc_laws.proofs.expansion.ranges_over.Given as goal

abbrev pub invariant-loop-sort : goal.invariant-loop-sort
invariant-loop-sort l = l.ranges.items ++ map ranges.Sort (drop l.sort-index l.sorts) ≡ map ranges.Sort l.sorts
