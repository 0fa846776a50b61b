use Rattle.cc_sure.proofs.Opening.{form_made, form_refused, query_at}
use Rattle.cc_sure.proofs.turns.SureTurns.form.Goals as goal

pub form_at-requires-clause-query : goal.form_at-requires-clause-query
form_at-requires-clause-query c = c.self.invariant.steps c.self.inside.horizon c.self.invariant.least (query_at _ c.args.self.now c.self.view_is c.requires)

pub returns-clause-made : goal.returns-clause-made
returns-clause-made c = λ d q of. form_made _ c.args.self.now c.self.view_is d q of c.form_at.result c.form_at.ensures.made c.form_at.ensures.tells c.form_at.ensures.within

pub returns-clause-refused : goal.returns-clause-refused
returns-clause-refused c = λ d q of. form_refused _ c.args.self.now c.self.view_is d q of c.form_at.result c.form_at.ensures.refused
