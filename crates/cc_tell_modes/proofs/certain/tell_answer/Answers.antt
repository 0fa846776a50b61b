use Rattle.cc_tell_modes.proofs.certain.tell_answer.Goals as goal

pub returns : goal.returns
returns g c = λ d of. c.give_made.ensures _ (c.answer_line-line.ensures d of)
