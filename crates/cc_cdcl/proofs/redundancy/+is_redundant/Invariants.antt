use Rattle.cc_cdcl.proofs.redundancy.+is_redundant.Given as goal

abbrev pub decreases-is_redundant : goal.decreases-is_redundant
decreases-is_redundant l = l.depth

abbrev pub invariant-loop-lit : goal.invariant-loop-lit
invariant-loop-lit l = Unit {0}
