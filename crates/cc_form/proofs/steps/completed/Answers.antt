use Rattle.cc_form.proofs.steps.completed.Goals as goal

pub returns-clause-completion : goal.returns-clause-completion
returns-clause-completion c = λ clauses holds. c.taken.ensures.arena _ (c.in_ok-complete_between.ensures.each clauses holds)
