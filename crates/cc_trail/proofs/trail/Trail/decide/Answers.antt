use Rattle.cc_trail.proofs.TrailViews.{fits_then, settled_then, parts_then}
use Rattle.cc_trail.proofs.trail.Trail.decide.Goals as goal

pub invariant_of-self : goal.invariant_of-self
invariant_of-self c =
    let there = parts_then c.self.inside c.args.self.now c.self.view_is c.self.invariant c.decide.new.self c.args.lit c.decide.ensures c.requires.over c.requires.open in
    record {
      trail_is = there.0;
      variables = there.1;
      pairs_variables = there.2;
      ahead = c.self.invariant.ahead;
    }

pub returns-clause-fits : goal.returns-clause-fits
returns-clause-fits c = fits_then c.self.inside c.args.self.now c.self.view_is c.self.invariant c.decide.new.self c.args.lit c.decide.ensures

pub returns-clause-settled : goal.returns-clause-settled
returns-clause-settled c = settled_then c.self.inside c.args.self.now c.self.view_is c.self.invariant c.decide.new.self c.args.lit c.decide.ensures
