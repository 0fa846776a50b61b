use Rattle.cc_induction.proofs.Inducing.{induction}
use Rattle.cc_induction.proofs.theorems.induction_holds.Goals as goal

pub returns : goal.returns
returns c = induction (record {
  terms_mean = c.terms_mean_formulas.ensures;
  terms_rest = c.terms_rest_on_their_constants.ensures;
  parts = c.paths_have_parts.ensures;
})
