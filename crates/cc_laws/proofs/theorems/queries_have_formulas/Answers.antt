use Rattle.cc_laws.proofs.QueryForms.{queries_formulas}
use Rattle.cc_laws.proofs.theorems.queries_have_formulas.Goals as goal

pub returns : goal.returns
returns c = queries_formulas
