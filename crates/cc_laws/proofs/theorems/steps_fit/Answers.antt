use Rattle.cc_laws.proofs.QueryForms.{steps_of_query}
use Rattle.cc_laws.proofs.theorems.steps_fit.Goals as goal

pub returns : goal.returns
returns c = steps_of_query
