use Rattle.cc_tell.proofs.telling.tell_key.Goals as goal

pub returns : goal.returns
returns g c = c.give_made.ensures _ c.key_line.ensures
