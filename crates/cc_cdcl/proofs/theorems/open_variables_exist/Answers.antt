use Rattle.cc_cdcl.proofs.OpenExist.{open_exist}
use Rattle.cc_cdcl.proofs.theorems.open_variables_exist.Goals as goal

pub returns : goal.returns
returns c = open_exist
