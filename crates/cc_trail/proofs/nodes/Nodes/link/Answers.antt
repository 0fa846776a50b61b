use Rattle.cc_trail.proofs.NodeViews.{linked_in}
use Rattle.cc_trail.proofs.nodes.Nodes.link.Goals as goal

pub returns : goal.returns
returns c = linked_in c.self.inside.nodes.items c.args.self.now c.self.view_is c.args.node c.args.next c.index_mut.result.now c.index_mut.ensures.value
