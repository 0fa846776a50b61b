use Rattle.cc_form.proofs.steps.denied.Goals as goal

pub returns-clause-denials : goal.returns-clause-denials
returns-clause-denials c = λ clauses holds. c.taken.ensures.arena _ (c.in_ok-deny_each.ensures.each clauses holds)
