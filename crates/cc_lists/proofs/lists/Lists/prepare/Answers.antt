use Rattle.cc_lists.proofs.lists.Lists.prepare.Goals as goal

pub invariant_of-self : goal.invariant_of-self
invariant_of-self c = (c.self.invariant.0, c.in_ok-template.ensures)
