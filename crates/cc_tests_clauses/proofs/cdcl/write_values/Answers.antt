use Rattle.std.proofs.Common.{arith}
use Rattle.cc_tests_clauses.proofs.Having.{values_more}
use Rattle.cc_tests_clauses.proofs.cdcl.write_values.Goals as goal

pub loop-variable-preserved : goal.loop-variable-preserved
loop-variable-preserved c =
    values_more c.args.first c.loop-variable.variable c.loop-variable.values.items c.push.new.self.items c.positive.result (omega arith) c.positive.ensures c.loop-variable.invariant
    c.in_ok-push.ensures.items
