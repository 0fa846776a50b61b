use Rattle.std.proofs.Common.{refl}
use Rattle.cc_trail.proofs.Starting.{starts, starts_on}
use Rattle.cc_trail.proofs.trail.Trail.new.Goals as goal

pub loop-index-init : goal.loop-index-init
loop-index-init c = starts c.in_ok-trail.trail c.args.kernel.now c.args.kernel.now.variables c.in_ok-trail.ensures refl

pub loop-index-preserved : goal.loop-index-preserved
loop-index-preserved c =
    starts_on c.loop-index.trail c.attach.new.self c.args.kernel.now c.loop-index.index c.loop-index.invariant c.in_ok-attach.ensures.attached c.in_ok-attach.ensures.fits
