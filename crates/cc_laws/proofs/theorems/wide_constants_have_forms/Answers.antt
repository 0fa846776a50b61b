use Rattle.cc_laws.proofs.FormsOfConstants.{wide_constants_forms}
use Rattle.cc_laws.proofs.theorems.wide_constants_have_forms.Goals as goal

pub returns : goal.returns
returns c = wide_constants_forms
