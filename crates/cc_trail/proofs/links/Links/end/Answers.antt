use Rattle.cc_trail.proofs.LinkViews.{view_ended}
use Rattle.cc_trail.proofs.links.Links.end.Goals as goal

pub returns : goal.returns
returns c = view_ended c.self.inside c.args.self.now c.self.view_is c.self.invariant
