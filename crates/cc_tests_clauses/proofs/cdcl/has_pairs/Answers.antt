use Rattle.std.proofs.Common.{◌∷◌, [], ◌-◌, ◌+◌, map, arith}
use Rattle.cc_defs.specs.ClauseForms.{positive}
use Rattle.cc_defs.specs.ClauseLists.{pairs_denied, position_variables}
use Rattle.cc_defs.specs.Clauses.{opposite}
use Rattle.cc_kernel.specs.Kernels.{clauses_of}
use Rattle.cc_tests_clauses.proofs.Having.{left_front, pairs_front, each_none, no_pairs}
use Rattle.cc_tests_clauses.proofs.cdcl.has_pairs.Goals as goal

pub loop-low-preserved : goal.loop-low-preserved
loop-low-preserved c = left_front (clauses_of c.args.kernel.now) (pairs_denied (position_variables c.loop-low.low (c.args.end - c.loop-low.low)))
    (map (λ v. opposite (positive c.loop-low.low) ∷ opposite v ∷ []) (position_variables (c.loop-low.low + 1) (c.args.end - (c.loop-low.low + 1))))
    (pairs_denied (position_variables (c.loop-low.low + 1) (c.args.end - (c.loop-low.low + 1)))) (pairs_denied (position_variables c.args.first (c.args.end - c.args.first)))
    (pairs_front c.loop-low.low c.args.end c.loop-low-test.true) c.loop-low.invariant (c.has_pairs_of.ensures c.if-not-has_pairs_of.false)
