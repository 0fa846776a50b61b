use Rattle.cc_list.proofs.Named.{no_key_spelled}
use Rattle.cc_list.proofs.asking.key_of.Goals as goal

pub returns-in-Some-clause-is : goal.returns-in-Some-clause-is
returns-in-Some-clause-is c = λ d q signature stands.
    c.fitting.ensures.is c.args.text.now d q (rw c.in-Some.is at c.in_ok-key.ensures) signature stands

pub returns-in-Some-clause-refused : goal.returns-in-Some-clause-refused
returns-in-Some-clause-refused c = λ d q signature stands.
    c.fitting.ensures.refused c.args.text.now d q (rw c.in-Some.is at c.in_ok-key.ensures) signature stands

pub returns-in-None-clause-refused : goal.returns-in-None-clause-refused
returns-in-None-clause-refused c = λ d q signature stands.
    (no_key_spelled d q c.args.text.now (rw c.in-None.is at c.in_ok-key.ensures), c.at.ensures)
