use Rattle.std.proofs.Common.{arith}
use Rattle.cc_tests_clauses.proofs.Having.{ascend_all, ascend_clause, ascend_over}
use Rattle.cc_tests_clauses.proofs.cdcl.is_clause.Goals as goal

pub returns-clause-clause : goal.returns-clause-clause
returns-clause-clause c yes_is = ascend_clause c.args.variables 0 c.args.literals.now
    (ascend_all c.args.variables c.loop-literal.variable c.args.literals.now c.loop-literal.literal-index (let low = c.loop-literal-test.false in omega arith) c.loop-literal.invariant)

pub returns-clause-over : goal.returns-clause-over
returns-clause-over c yes_is = ascend_over c.args.variables 0 c.args.literals.now
    (ascend_all c.args.variables c.loop-literal.variable c.args.literals.now c.loop-literal.literal-index (let low = c.loop-literal-test.false in omega arith) c.loop-literal.invariant)
