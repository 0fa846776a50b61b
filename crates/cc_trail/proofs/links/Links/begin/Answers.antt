use Rattle.cc_trail.proofs.LinkViews.{links_then_begun, view_begun}
use Rattle.cc_trail.proofs.links.Links.begin.Goals as goal

pub invariant_of-self : goal.invariant_of-self
invariant_of-self c =
    links_then_begun c.self.inside c.args.self.now c.self.view_is c.self.invariant c.args.lit c.requires c.code-self-inside.result c.code-self-inside.ensures

pub returns : goal.returns
returns c = view_begun c.self.inside c.args.self.now c.self.view_is c.self.invariant c.args.lit c.requires c.code-self-inside.result c.code-self-inside.ensures
