use Rattle.std.proofs.Common.{◌++◌, length}
use Rattle.cc_check.specs.Readers.{chain_of}
use Rattle.cc_check.proofs.Chains.{ReachedFrom}
use Rattle.cc_check.proofs.clauses.reach.Given as goal

abbrev pub invariant-loop-pivot : goal.invariant-loop-pivot
invariant-loop-pivot l = ReachedFrom (l.form.clauses ++ l.own) l.form.variables (chain_of l.chain) l.stage.clause.items (chain_of l.rest)

abbrev pub decreases-loop-pivot : goal.decreases-loop-pivot
decreases-loop-pivot l = length (chain_of l.rest)
