use Rattle.cc_general.proofs.Opened.{form_made, form_refused, low_at}
use Rattle.cc_general.proofs.turns.GeneralTurns.form.Goals as goal

pub candidates-requires-clause-query : goal.candidates-requires-clause-query
candidates-requires-clause-query c = c.self.invariant.steps c.self.inside.horizon c.self.invariant.least (low_at _ c.args.self.now c.self.view_is c.requires)

pub returns-clause-made : goal.returns-clause-made
returns-clause-made c = λ w q of. form_made _ c.args.self.now c.self.view_is w q of c.candidates.result c.candidates.ensures.made c.candidates.ensures.tells c.candidates.ensures.within

pub returns-clause-refused : goal.returns-clause-refused
returns-clause-refused c = λ w q of. form_refused _ c.args.self.now c.self.view_is w q of c.candidates.result c.candidates.ensures.refused
