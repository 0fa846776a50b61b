use Rattle.cc_cdcl.proofs.Leasts.{least_found}
use Rattle.cc_cdcl.proofs.theorems.least_row_is_found.Goals as goal

pub returns : goal.returns
returns c = least_found
