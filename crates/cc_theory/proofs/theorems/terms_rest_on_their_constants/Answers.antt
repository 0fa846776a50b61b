use Rattle.cc_theory.proofs.Cases.{reads}
use Rattle.cc_theory.proofs.theorems.terms_rest_on_their_constants.Goals as goal

pub returns : goal.returns
returns c = λ sizes formula is v w agree. reads sizes v w agree formula is.fits
