use Rattle.cc_check.proofs.Literals.{before_by_neither, before_by_sign, before_by_variable}
use Rattle.cc_check.proofs.clauses.is_before.Goals as goal

pub returns : goal.returns
returns c = before_by_variable c.args.variable c.args.positive c.args.other c.variable.result c.variable.ensures c.if-variable.false c.variable-2.result c.variable-2.ensures

pub returns-then-not-positive : goal.returns-then-not-positive
returns-then-not-positive c = before_by_sign c.args.variable c.args.positive c.args.other c.variable.result c.variable.ensures c.if-variable.true c.if-not-positive.true c.is_positive.result c.is_positive.ensures

pub returns-else-not-positive : goal.returns-else-not-positive
returns-else-not-positive c = before_by_neither c.args.variable c.args.positive c.args.other c.variable.result c.variable.ensures c.if-variable.true c.if-not-positive.false
