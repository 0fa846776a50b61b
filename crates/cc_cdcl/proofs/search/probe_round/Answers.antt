use Rattle.std.proofs.Common.{ap, arith}
use Rattle.cc_trail.specs.Trails.{TrailView}
use Rattle.cc_cdcl.proofs.Probing.{round_longer, trail_decided, trail_propagated}
use Rattle.cc_cdcl.proofs.Stepping.{steps_few}
use Rattle.cc_cdcl.proofs.search.probe_round.Goals as goal

pub returns-in-Some-clause-trail : goal.returns-in-Some-clause-trail
returns-in-Some-clause-trail c =
    trail_propagated c.args.kernel.now c.args.trail.now c.propagate.new.self c.requires c.propagate.ensures.propagated c.propagate.ensures.fits c.propagate.ensures.settled

pub returns-in-Some-choose-clause-trail : goal.returns-in-Some-choose-clause-trail
returns-in-Some-choose-clause-trail c =
    trail_decided c.args.kernel.now c.propagate.new.self c.decide.new.self c.in-Some-choose.lit
    (trail_propagated c.args.kernel.now c.args.trail.now c.propagate.new.self c.requires c.propagate.ensures.propagated c.propagate.ensures.fits c.propagate.ensures.settled)
    c.level_count-before.ensures.steps c.decide.ensures.decided (c.decide.ensures.fits c.args.kernel.now c.propagate.ensures.fits)
    (c.decide.ensures.settled c.args.kernel.now c.in-None.ensures.closed c.propagate.ensures.settled)

pub returns-in-Some-choose-clause-round : goal.returns-in-Some-choose-clause-round
returns-in-Some-choose-clause-round c =
    let few = steps_few c.decide.new.self.variables c.decide.new.self.steps c.decide.new.self.level_count c.level_count-after.ensures.steps in
    let same = ap (λ (t : TrailView). t.variables) c.decide.ensures.decided in let equal = c.propagate.ensures.fits.variables in (
      round_longer c.args.trail.now c.propagate.new.self c.decide.new.self c.in-Some-choose.lit c.propagate.ensures.propagated c.decide.ensures.decided,
      omega (arith, few.0),
    )

pub returns-in-None-choose-clause-trail : goal.returns-in-None-choose-clause-trail
returns-in-None-choose-clause-trail c =
    trail_propagated c.args.kernel.now c.args.trail.now c.propagate.new.self c.requires c.propagate.ensures.propagated c.propagate.ensures.fits c.propagate.ensures.settled
