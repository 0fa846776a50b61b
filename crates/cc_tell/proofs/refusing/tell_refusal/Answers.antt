use Rattle.cc_tell.proofs.refusing.tell_refusal.Goals as goal

pub returns : goal.returns
returns g c = c.give_made.ensures _ c.refusal_text.ensures
