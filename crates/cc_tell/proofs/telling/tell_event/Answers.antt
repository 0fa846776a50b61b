use Rattle.cc_tell.proofs.telling.tell_event.Goals as goal

pub returns : goal.returns
returns g c = c.give_made.ensures _ c.event_text.ensures
