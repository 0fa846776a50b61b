use Rattle.cc_run.proofs.WhyTold.{no_row_spelled}
use Rattle.cc_run.proofs.rows.row_named.Goals as goal

pub returns-in-Some-clause-refused : goal.returns-in-Some-clause-refused
returns-in-Some-clause-refused c = λ d signature. c.fitting.ensures.refused c.args.text.now d (rw c.in-Some.is at c.in_ok-key.ensures) signature

pub returns-in-None-clause-refused : goal.returns-in-None-clause-refused
returns-in-None-clause-refused c = λ d signature. (no_row_spelled d c.args.text.now (rw c.in-None.is at c.in_ok-key.ensures), c.at.ensures)
