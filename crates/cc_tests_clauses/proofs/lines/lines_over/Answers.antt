use Rattle.cc_tests_clauses.proofs.Right.{right_of}
use Rattle.cc_tests_clauses.proofs.lines.lines_over.Goals as goal

pub lines_of-requires-clause-right : goal.lines_of-requires-clause-right
lines_of-requires-clause-right c =
    right_of c.args.form.now c.args.section.now c.in_ok-check.field-0 c.in-Right.ending c.in-Right.blocks c.in-Right.line c.in-Right.is c.in_ok-check.ensures
