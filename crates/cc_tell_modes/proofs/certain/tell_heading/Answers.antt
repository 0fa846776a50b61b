use Rattle.cc_tell_modes.proofs.certain.tell_heading.Goals as goal

pub returns : goal.returns
returns g c = c.give_made.ensures _ c.heading_text.ensures
