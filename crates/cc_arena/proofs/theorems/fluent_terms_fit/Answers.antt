use Rattle.cc_arena.proofs.FittingLaws.{fluent_fits}
use Rattle.cc_arena.proofs.theorems.fluent_terms_fit.Goals as goal

pub returns : goal.returns
returns c = fluent_fits
