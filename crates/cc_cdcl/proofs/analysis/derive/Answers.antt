use Rattle.cc_cdcl.proofs.Deriving.{fits_kept}
use Rattle.cc_cdcl.proofs.analysis.derive.Goals as goal

pub shorten-requires-clause-fits : goal.shorten-requires-clause-fits
shorten-requires-clause-fits c = fits_kept c.args.trail.now c.args.kernel.now c.derive_first.new.kernel c.derive_first.ensures.kept c.requires.fits

pub note_met-requires-clause-fits : goal.note_met-requires-clause-fits
note_met-requires-clause-fits c = fits_kept c.args.trail.now c.args.kernel.now c.derive_first.new.kernel c.derive_first.ensures.kept c.requires.fits
