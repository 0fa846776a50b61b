use Rattle.std.proofs.Common.{◌+◌, arith}
use Rattle.cc_trail.proofs.LinkViews.{within_here, links_then_passed, view_passed}
use Rattle.cc_trail.proofs.links.Links.pass.Goals as goal

pub overflow_add-self : goal.overflow_add-self
overflow_add-self c =
    let here = (within_here c.self.inside c.args.self.now c.self.view_is c.self.invariant c.args.node c.requires (c.args.node + 1) (omega arith)).0 in
    let few = c.self.invariant.next_few in
    omega (arith, here)

pub invariant_of-self : goal.invariant_of-self
invariant_of-self c = links_then_passed c.self.inside c.args.self.now c.self.view_is c.self.invariant c.args.node c.requires (c.args.node + 1) (omega arith)

pub returns : goal.returns
returns c = view_passed c.self.inside c.args.self.now c.self.view_is c.self.invariant c.args.node c.requires (c.args.node + 1) (omega arith)
