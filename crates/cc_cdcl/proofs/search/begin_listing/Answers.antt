use Rattle.cc_cdcl.proofs.Probing.{listing_begins}
use Rattle.cc_cdcl.proofs.search.begin_listing.Goals as goal

pub returns : goal.returns
returns c sizes kernel is =
    listing_begins sizes kernel c.args.trail.now c.back_to.new.self c.args.cursors.now c.start.result is c.level_count-level.ensures.steps c.back_to.ensures.back
    (c.back_to.ensures.fits kernel is.fits) (c.back_to.ensures.settled kernel is.settled) c.requires c.start.ensures
