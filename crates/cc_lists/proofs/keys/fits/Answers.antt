use Rattle.cc_lists.proofs.Positions.{fits_in}
use Rattle.cc_lists.proofs.keys.fits.Goals as goal

pub returns-clause-described : goal.returns-clause-described
returns-clause-described c = λ d of.
    let same = fits_in d c.args.sig.now _ c.args.key.now of in
    ((λ is. same.0 (c.is_fit.ensures.0 is)), (λ fits. c.is_fit.ensures.1 (same.1 fits)))
