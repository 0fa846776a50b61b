use Rattle.cc_tests_clauses.proofs.Having.{turned}
use Rattle.cc_tests_clauses.proofs.cdcl.turn.Goals as goal

pub returns-in_ok-block_row-in-Found-clause-ready : goal.returns-in_ok-block_row-in-Found-clause-ready
returns-in_ok-block_row-in-Found-clause-ready c one other =
    (turned c.args.budget c.args.solver.now c.next.new.self c.block_row.new.self c.in_ok-step.step c.in_ok-step.ensures.step c.in-Found.is c.in_ok-block_row-in-Found.ensures.blocked c.requires.budget).0

pub returns-in_ok-block_row-in-Found-clause-budget : goal.returns-in_ok-block_row-in-Found-clause-budget
returns-in_ok-block_row-in-Found-clause-budget c one other =
    (turned c.args.budget c.args.solver.now c.next.new.self c.block_row.new.self c.in_ok-step.step c.in_ok-step.ensures.step c.in-Found.is c.in_ok-block_row-in-Found.ensures.blocked c.requires.budget).1
