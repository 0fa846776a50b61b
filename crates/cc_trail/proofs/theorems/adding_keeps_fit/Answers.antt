use Rattle.cc_trail.proofs.Adding.{fits_added}
use Rattle.cc_trail.proofs.theorems.adding_keeps_fit.Goals as goal

pub returns : goal.returns
returns c = fits_added
