use Rattle.cc_query.proofs.session.Session.prepare.Goals as goal

pub invariant_of-self : goal.invariant_of-self
invariant_of-self c = rw c.prepare.ensures c.self.invariant

pub returns : goal.returns
returns c = rw c.prepare.ensures c.self.view_is
