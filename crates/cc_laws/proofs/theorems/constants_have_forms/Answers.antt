use Rattle.cc_laws.proofs.FormsOfConstants.{constants_forms}
use Rattle.cc_laws.proofs.theorems.constants_have_forms.Goals as goal

pub returns : goal.returns
returns c = constants_forms
